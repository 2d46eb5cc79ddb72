-- The laws on what streams say.
use Rattle.std.proofs.Common.{◌≡◌, ◌⊎◌, inl, inr, ℕ, ◌+◌, ◌<◌, ◌≤◌, List, [], ◌∷◌, ◌++◌, Bool, true, false, length, take, drop, All, refl, sym, ap, subst, ◌∙◌, arith, append_assoc}
use Rattle.std.specs.Prelude.{codes}
use Rattle.std.specs.Bool.{Decides}
use Rattle.std.specs.Str.{bytes_eq}
use Rattle.std.proofs.lemmas.Bool.{cases_lt, false≢true}
use Rattle.std.proofs.lemmas.Slice.Eq.{bytes_eq-Decides}
use Rattle.std.proofs.lemmas.List.{length-append, length-drop, length-take, take-append-drop}
use Rattle.std.proofs.lemmas.List.Elements.{All-head, All-take, All-drop}
use Rattle.std.proofs.lemmas.List.Concat.{flat_map-append}
use Rattle.std.specs.List.{flat_map}
use Rattle.base_wire.specs.Payloads.{IsPayload}
use Rattle.log_format.specs.Exports.{frame_text, end_mark, asked_for}
use Rattle.log_format.specs.Readings.{IsBody, IsReading, HasFrames, unfinished, room_beside}
use Rattle.log_format.specs.ReadingLaws.{AStreamHasOneReading, EveryStreamHasAReading, AnExportReadsBack, ALongExportIsTooLong, ACutExportHasTheFirstFrames, AreFirstOf}
use Rattle.log_format.specs.declared.status.Status.{Status}
use Rattle.log_format.specs.declared.status.Status.TheVariants.{Broken}
use Rattle.log_format.proofs.Bodies.{one_body, body_found, same_ends}
use Rattle.log_format.proofs.Cuts.{IsCutStatus, cut_body}
use Rattle.log_format.proofs.Texts.{AreBytes-drop, end_mark_named, frame_has_length, piece_came}

-- ---- behind the magic

abbrev magic : List ℕ
magic = codes "HSL1"

body_of : (held : ℕ) (stream : List ℕ) (failed : Bool) (frames : List (List ℕ)) (status : Status) → HasFrames held stream failed frames status
    → IsBody failed 0 (room_beside held) (drop 4 stream) frames status
body_of held stream failed frames status h = record {
  rest = h.rest;
  split = ap (λ (t : List ℕ). drop 4 t) h.split;
  sizes = h.sizes;
  few = h.few;
  ends = same_ends failed (length frames) (0 + length frames) _ _ h.rest status (omega arith) refl h.ends;
}

pub frames_of : (held : ℕ) (stream : List ℕ) (failed : Bool) (frames : List (List ℕ)) (status : Status) → stream ≡ magic ++ drop 4 stream
    → IsBody failed 0 (room_beside held) (drop 4 stream) frames status → HasFrames held stream failed frames status
frames_of held stream failed frames status begins b = record {
  rest = b.rest;
  split = begins ∙ ap (λ (t : List ℕ). magic ++ t) b.split;
  sizes = b.sizes;
  few = b.few;
  ends = same_ends failed (0 + length frames) (length frames) _ _ b.rest status (omega arith) refl b.ends;
}

pub begins_with : (stream : List ℕ) → take 4 stream ≡ magic → stream ≡ magic ++ drop 4 stream
begins_with stream is = sym (take-append-drop 4 stream) ∙ ap (λ (t : List ℕ). t ++ drop 4 stream) is

-- ---- one reading

magic_came : (held : ℕ) (stream : List ℕ) (failed : Bool) (frames : List (List ℕ)) (status : Status) → HasFrames held stream failed frames status
    → (4 ≤ length stream) × (take 4 stream ≡ magic)
magic_came held stream failed frames status h =
    (omega (arith, ap length h.split, length-append magic (flat_map frame_text frames ++ h.rest)), ap (λ (t : List ℕ). take 4 t) h.split)

pub one_reading : AStreamHasOneReading
one_reading held stream failed xs ys s t (inl a) (inl b) = (a.none ∙ sym b.none, a.named ∙ sym b.named)
one_reading held stream failed xs ys s t (inl a) (inr (inl b)) = absurd (omega arith)
one_reading held stream failed xs ys s t (inl a) (inr (inr b)) = let came = (magic_came held stream failed ys t b).0 in absurd (omega arith)
one_reading held stream failed xs ys s t (inr (inl a)) (inl b) = absurd (omega arith)
one_reading held stream failed xs ys s t (inr (inl a)) (inr (inl b)) = (a.none ∙ sym b.none, a.named ∙ sym b.named)
one_reading held stream failed xs ys s t (inr (inl a)) (inr (inr b)) = absurd (a.other (magic_came held stream failed ys t b).1)
one_reading held stream failed xs ys s t (inr (inr a)) (inl b) = let came = (magic_came held stream failed xs s a).0 in absurd (omega arith)
one_reading held stream failed xs ys s t (inr (inr a)) (inr (inl b)) = absurd (b.other (magic_came held stream failed xs s a).1)
one_reading held stream failed xs ys s t (inr (inr a)) (inr (inr b)) =
    one_body failed 0 (room_beside held) (drop 4 stream) xs ys s t (body_of held stream failed xs s a) (body_of held stream failed ys t b)

-- ---- every stream

same_or_other : (xs ys : List ℕ) → (xs ≡ ys) ⊎ (xs ≡ ys → ⊥)
same_or_other xs ys = elim (bytes_eq xs ys) as (λ b. Decides b (xs ≡ ys) → (xs ≡ ys) ⊎ (xs ≡ ys → ⊥)) [ true ↦ λ d. inl (d.0 refl) | false ↦ λ d. inr (λ e. false≢true (d.1 e)) ] (bytes_eq-Decides xs ys)

pub a_reading : EveryStreamHasAReading
a_reading held stream failed fit =
    elim (cases_lt (length stream) 4) [
      | inl short ↦ (record { frames = []; status = unfinished failed }, inl (record { short = short; none = refl; named = refl }))
      | inr came ↦ elim (same_or_other (take 4 stream) magic) [
        | inr other ↦ (record { frames = []; status = Broken }, inr (inl (record { came = came; other = other; none = refl; named = refl })))
        | inl same ↦
            let b = body_found failed 0 (room_beside held) (drop 4 stream) (AreBytes-drop 4 stream fit) in
            (b.0, inr (inr (frames_of held stream failed b.0.frames b.0.status (begins_with stream same) b.1)))
      ]
    ]

-- ---- exports

asked_sizes : (payloads : List (List ℕ)) (first most : ℕ) → All IsPayload payloads → All IsPayload (asked_for payloads first most)
asked_sizes payloads first most all = All-take IsPayload most (drop first payloads) (All-drop IsPayload first payloads all)

pub reads_back : AnExportReadsBack
reads_back held first most payloads failed sizes few =
    let frames = asked_for payloads first most in
    inr (inr (record {
      rest = end_mark (length frames);
      split = refl;
      sizes = asked_sizes payloads first most sizes;
      few = omega arith;
      ends = end_mark_named (length frames) (omega arith);
    }))

some_element : (xs : List (List ℕ)) → 0 < length xs → (x : List ℕ) × (more : List (List ℕ)) × (xs ≡ x ∷ more)
some_element [] some = absurd (omega arith)
some_element (x ∷ xs) some = (x, xs, refl)

pub too_long : ALongExportIsTooLong
too_long held first most payloads failed sizes many =
    let all = asked_for payloads first most in
    let room = room_beside held in
    let next = some_element (drop room all) (omega (arith, many, length-drop room all)) in
    let x = next.0 in
    let more = next.1 in
    let is : IsPayload x =
    All-head IsPayload x more (subst (λ (l : List (List ℕ)). All IsPayload l) next.2 (All-drop IsPayload room all (asked_sizes payloads first most sizes))) in
    let behind = flat_map frame_text more ++ end_mark (length all) in
    let whole : flat_map frame_text all ≡ flat_map frame_text (take room all) ++ (frame_text x ++ flat_map frame_text more) =
    ap (λ (l : List (List ℕ)). flat_map frame_text l) (sym (take-append-drop room all) ∙ ap (λ (l : List (List ℕ)). take room all ++ l) next.2)
    ∙ flat_map-append frame_text (take room all) (x ∷ more) in
    let split : flat_map frame_text all ++ end_mark (length all) ≡ flat_map frame_text (take room all) ++ (frame_text x ++ behind) =
    ap (λ (t : List ℕ). t ++ end_mark (length all)) whole
    ∙ append_assoc (flat_map frame_text (take room all)) (frame_text x ++ flat_map frame_text more) (end_mark (length all))
    ∙ ap (λ (t : List ℕ). flat_map frame_text (take room all) ++ t) (append_assoc (frame_text x) (flat_map frame_text more) (end_mark (length all))) in
    inr (inr (record {
      rest = frame_text x ++ behind;
      split = ap (λ (t : List ℕ). magic ++ t) split;
      sizes = All-take IsPayload room all (asked_sizes payloads first most sizes);
      few = omega (arith, length-take room all);
      ends = (omega (arith, many, length-take room all), frame_has_length (frame_text x ++ behind) x behind is refl);
    }))

-- what one reading has, another of the same stream has
pub of_the_reading : (held : ℕ) (stream : List ℕ) (failed : Bool) (frames others all : List (List ℕ)) (status other : Status) (lost : List ℕ)
    → IsReading held stream failed frames status → IsReading held stream failed others other
    → AreFirstOf others all × IsCutStatus failed others all lost other → AreFirstOf frames all × IsCutStatus failed frames all lost status
of_the_reading held stream failed frames others all status other lost a b is =
    let same = one_reading held stream failed frames others status other a b in
    subst (λ (s : Status). AreFirstOf frames all × IsCutStatus failed frames all lost s) (sym same.1)
    (subst (λ (l : List (List ℕ)). AreFirstOf l all × IsCutStatus failed l all lost other) (sym same.0) is)

pub cut_reading : ACutExportHasTheFirstFrames
cut_reading held first most payloads failed came lost frames status sizes few split reading =
    let all = asked_for payloads first most in
    elim (cases_lt (length came) 4) [
      | inl short ↦ of_the_reading held came failed frames [] all status (unfinished failed) lost reading
          (inl (record { short = short; none = refl; named = refl })) ((all, refl), inr refl)
      | inr long ↦
          let parts = piece_came magic (flat_map frame_text all ++ end_mark (length all)) came lost split long in
          let cut = cut_body failed 0 (room_beside held) (drop 4 came) lost all (asked_sizes payloads first most sizes) (omega arith) (omega arith) (ap (λ (n : ℕ). flat_map frame_text all ++ end_mark n) (zero_more (length all)) ∙ parts.1) in
          of_the_reading held came failed frames cut.frames all status cut.status lost reading
          (inr (inr (frames_of held came failed cut.frames cut.status parts.0 cut.body))) (cut.front, cut.named)
    ]
  where
    zero_more : (n : ℕ) → 0 + n ≡ n
    zero_more n = omega arith
