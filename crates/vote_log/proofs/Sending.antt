-- Frames that are sent one after the other.
use Rattle.std.proofs.Common.{inl, inr, ◌≡◌, ◌+◌, ◌-◌, ◌<◌, ◌≤◌, ℕ, suc, List, [], ◌∷◌, ◌++◌, Option, Some, None, refl, sym, ap, ◌∙◌, subst, append_assoc, take, drop, length, arith}
use Rattle.std.specs.Prelude.{codes, map, IfSome, Result, Ok, Err, OnErr, OnOk}
use Rattle.std.specs.List.{flat_map}
use Rattle.std.proofs.lemmas.List.{append-nil, drop-drop, drop_more, take_all, take_at, take-append-le}
use Rattle.std.proofs.lemmas.List.Concat.{flat_map-append}
use Rattle.std.proofs.Math.Seq.{take-add}
use Rattle.std.proofs.lemmas.Bool.{cases_lt}
use Rattle.log_format.specs.Exports.{asked_for, end_mark, export_text, frame_text}
use Rattle.base_streams.specs.Streams.{Wrote, WrotePart}
use Rattle.base_streams.proofs.Writing.{wrote_both, wrote_nothing}
use Rattle.blocks.specs.Replica.{Stored}
use Rattle.stable_log.proofs.Told.{some_if}
use Rattle.log_format.specs.EntryReading.{entry_in}
use Rattle.vote_log.specs.LogExport.{export_of, frame_at, frames_from}
use Rattle.vote_log.specs.Logs.{AreTexts}
use Rattle.vote_log.proofs.LogLaws.{texts_are}

pub on_err : {T E : Type 0} (r : Result T E) (P : Type 0) → P → OnErr r P
on_err (Ok x) P holds = tt
on_err (Err e) P holds = holds

-- ---- what a sink was given, and behind it a part of something

-- a part of the front is a part of the whole
pub part_of_front : (before after : Option (List ℕ)) (first second : List ℕ) → WrotePart before after first → WrotePart before after (first ++ second)
part_of_front None after first second part = tt
part_of_front (Some text) after first second part = elim (cases_lt (length first) part.0) [
  | inl past ↦ (length first, part.1 ∙ ap (λ (t : List ℕ). Some (text ++ t)) (take_all part.0 first (omega (arith, past)) ∙ sym (take_at first second (length first) refl)))
  | inr within ↦ (part.0, part.1 ∙ ap (λ (t : List ℕ). Some (text ++ t)) (sym (take-append-le part.0 first second within)))
]

-- behind what was written whole, a part of the rest
pub part_behind : (before mid after : Option (List ℕ)) (first second : List ℕ) → Wrote before mid first → WrotePart mid after second → WrotePart before after (first ++ second)
part_behind None mid after first second wrote part = tt
part_behind (Some text) mid after first second wrote part =
    let told : WrotePart (Some (text ++ first)) after second = subst (λ (m : Option (List ℕ)). WrotePart m after second) wrote part in (
      length first + told.0,
      told.1 ∙ ap (λ (t : List ℕ). Some t) (append_assoc text first (take told.0 second) ∙ ap (λ (t : List ℕ). text ++ t) (sym (take-append-add first second told.0))),
    )
  where
    take-append-add : (xs ys : List ℕ) (n : ℕ) → take (length xs + n) (xs ++ ys) ≡ xs ++ take n ys
    take-append-add [] ys n = let none : 0 + n ≡ n = omega arith in ap (λ (m : ℕ). take m ys) none
    take-append-add (x ∷ xs) ys n =
        let more : suc (length xs) + n ≡ suc (length xs + n) = omega arith in
        ap (λ (m : ℕ). take m (x ∷ (xs ++ ys))) more ∙ ap (λ (l : List ℕ). x ∷ l) (take-append-add xs ys n)

-- ---- frames

-- the frames up to one stand in front of those from it on
frames_split : (payloads : List (List ℕ)) (from k until : ℕ) → from ≤ k → k ≤ until → frames_from payloads from until ≡ frames_from payloads from k ++ frames_from payloads k until
frames_split payloads from k until le fits =
    let rest = drop from payloads in
    let sum : until - from ≡ (k - from) + (until - k) = omega (arith, le, fits) in
    ap (λ (n : ℕ). flat_map frame_text (take n rest)) sum
    ∙ ap (flat_map frame_text) (take-add (k - from) (until - k) rest)
    ∙ flat_map-append frame_text (take (k - from) rest) (take (until - k) (drop (k - from) rest))
    ∙ ap (λ (l : List (List ℕ)). frames_from payloads from k ++ flat_map frame_text (take (until - k) l)) (drop-drop (k - from) from payloads ∙ ap (λ (n : ℕ). drop n payloads) from_k)
  where
    from_k : from + (k - from) ≡ k
    from_k = omega (arith, le)

-- the frames up to one, and it
pub frames_and_one : (payloads : List (List ℕ)) (from k : ℕ) → from ≤ k → k < length payloads → frames_from payloads from (k + 1) ≡ frames_from payloads from k ++ frame_at payloads k
frames_and_one payloads from k le below =
    let one : k + 1 - k ≡ 1 = omega arith in
    frames_split payloads from k (k + 1) le (omega arith)
    ∙ ap (λ (n : ℕ). frames_from payloads from k ++ flat_map frame_text (take n (drop k payloads))) one
    ∙ ap (λ (l : List (List ℕ)). frames_from payloads from k ++ flat_map frame_text (take 1 l)) (drop_more payloads k [] below)
    ∙ ap (λ (t : List ℕ). frames_from payloads from k ++ t) (append-nil (frame_at payloads k))

-- a part of a frame behind those before it is a part of the frames
pub frames_part : (before mid after : Option (List ℕ)) (payloads : List (List ℕ)) (from k until : ℕ) → from ≤ k → k < until → until ≤ length payloads
    → Wrote before mid (frames_from payloads from k) → WrotePart mid after (frame_at payloads k) → WrotePart before after (frames_from payloads from until)
frames_part before mid after payloads from k until le below fits wrote part =
    let up_to : WrotePart before after (frames_from payloads from (k + 1)) =
    subst (λ (t : List ℕ). WrotePart before after t) (sym (frames_and_one payloads from k le (omega (arith, below, fits))))
    (part_behind before mid after (frames_from payloads from k) (frame_at payloads k) wrote part) in
    subst (λ (t : List ℕ). WrotePart before after t) (sym (frames_split payloads from (k + 1) until (omega (arith, le)) (omega (arith, below))))
    (part_of_front before after (frames_from payloads from (k + 1)) (frames_from payloads (k + 1) until) up_to)

-- .. and a whole one makes one frame more
pub frames_more : (before mid after : Option (List ℕ)) (payloads : List (List ℕ)) (from k : ℕ) → from ≤ k → k < length payloads
    → Wrote before mid (frames_from payloads from k) → Wrote mid after (frame_at payloads k) → Wrote before after (frames_from payloads from (k + 1))
frames_more before mid after payloads from k le below wrote one =
    subst (λ (t : List ℕ). Wrote before after t) (sym (frames_and_one payloads from k le below))
    (wrote_both before mid after (frames_from payloads from k) (frame_at payloads k) wrote one)

-- no frame yet
pub frames_none : (before : Option (List ℕ)) (payloads : List (List ℕ)) (from : ℕ) → Wrote before before (frames_from payloads from from)
frames_none before payloads from =
    let none : from - from ≡ 0 = omega arith in
    subst (λ (n : ℕ). Wrote before before (flat_map frame_text (take n (drop from payloads)))) (sym none) (wrote_nothing before)

-- ---- the stream

-- what is sent of a stream of the frames that are asked for
module _ (payloads : List (List ℕ)) (first most from until : ℕ) (same : take (until - from) (drop from payloads) ≡ asked_for payloads first most) where
  abbrev asked : List (List ℕ)
  asked = asked_for payloads first most

  frames_are : frames_from payloads from until ≡ flat_map frame_text asked
  frames_are = ap (flat_map frame_text) same

  pub head_part : (before after : Option (List ℕ)) → WrotePart before after (codes "HSL1") → WrotePart before after (export_text payloads first most)
  head_part before after part = part_of_front before after (codes "HSL1") (flat_map frame_text asked ++ end_mark (length asked)) part

  pub body_part : (before mid after : Option (List ℕ)) → Wrote before mid (codes "HSL1") → WrotePart mid after (frames_from payloads from until) → WrotePart before after (export_text payloads first most)
  body_part before mid after head part =
      part_behind before mid after (codes "HSL1") (flat_map frame_text asked ++ end_mark (length asked)) head
      (part_of_front mid after (flat_map frame_text asked) (end_mark (length asked)) (subst (λ (t : List ℕ). WrotePart mid after t) frames_are part))

  module _ (count : ℕ) (counted : count ≡ length asked) (before mid now after : Option (List ℕ)) (head : Wrote before mid (codes "HSL1")) (body : Wrote mid now (frames_from payloads from until)) where
    framed : Wrote mid now (flat_map frame_text asked)
    framed = subst (λ (t : List ℕ). Wrote mid now t) frames_are body

    pub mark_part : WrotePart now after (end_mark count) → WrotePart before after (export_text payloads first most)
    mark_part part =
        part_behind before mid after (codes "HSL1") (flat_map frame_text asked ++ end_mark (length asked)) head
        (part_behind mid now after (flat_map frame_text asked) (end_mark (length asked)) framed (subst (λ (n : ℕ). WrotePart now after (end_mark n)) counted part))

    pub all_sent : Wrote now after (end_mark count) → Wrote before after (export_text payloads first most)
    all_sent mark =
        wrote_both before mid after (codes "HSL1") (flat_map frame_text asked ++ end_mark (length asked)) head
        (wrote_both mid now after (flat_map frame_text asked) (end_mark (length asked)) framed (subst (λ (n : ℕ). Wrote now after (end_mark n)) counted mark))

-- ---- the stream of the entries

pub on_ok_maps : {T E : Type 0} (r : Result T E) (P Q : Type 0) → (P → Q) → OnOk r P → OnOk r Q
on_ok_maps (Ok x) P Q by holds = by holds
on_ok_maps (Err e) P Q by holds = tt

pub on_err_maps : {T E : Type 0} (r : Result T E) (P Q : Type 0) → (P → Q) → OnErr r P → OnErr r Q
on_err_maps (Ok x) P Q by holds = tt
on_err_maps (Err e) P Q by holds = by holds

-- where the disk tells its bytes, the payloads are the texts of the entries
pub exported : (told : Option (List ℕ)) (payloads : List (List ℕ)) (steps : List Stored) → ((bs : List ℕ) → told ≡ Some bs → AreTexts payloads steps) → (P : List ℕ → Type 0) (first most : ℕ)
    → ((bs : List ℕ) → told ≡ Some bs → P (export_text payloads first most)) → IfSome told (λ _. P (export_of (map entry_in payloads) first most))
exported told payloads steps texts P first most holds = some_if told (λ _. P (export_of (map entry_in payloads) first most)) (λ bs is.
    subst (λ (l : List (List ℕ)). P (export_text l first most)) (texts_are payloads (texts bs is).each) (holds bs is))
