-- Reading from a place of a stream on: its frames are found one by one.
use Rattle.std.proofs.Common.{◌≡◌, ◌⊎◌, inl, inr, ℕ, zero, suc, ◌+◌, ◌-◌, ◌<◌, ◌≤◌, List, [], ◌∷◌, ◌++◌, Bool, length, take, drop, All, refl, sym, ap, subst, ◌∙◌, arith, append_assoc}
use Rattle.std.proofs.lemmas.Bool.{cases_lt}
use Rattle.std.proofs.lemmas.List.{length-drop, length-take}
use Rattle.std.proofs.lemmas.List.Elements.{All-nil, All-cons, All-head, All-tail}
use Rattle.std.specs.List.{flat_map}
use Rattle.base_wire.specs.Pieces.{number_at, AreBytes}
use Rattle.base_wire.specs.Payloads.{IsPayload}
use Rattle.log_format.specs.Exports.{frame_text}
use Rattle.log_format.specs.Readings.{Reading, unfinished, Ends, IsBody}
use Rattle.log_format.specs.declared.status.Status.{Status}
use Rattle.log_format.specs.declared.status.Status.TheVariants.{Whole, Broken, TooLong}
use Rattle.log_format.proofs.Endings.{one_ending, ends_open, goes_on}
use Rattle.log_format.proofs.Texts.{one_frame, frame_found, AreBytes-drop}

-- the same ending, with other names for its numbers
pub same_ends : (failed : Bool) (n m room left : ℕ) (rest : List ℕ) (status : Status) → n ≡ m → room ≡ left → Ends failed n room rest status → Ends failed m left rest status
same_ends failed n m room left rest status e f ends =
    subst (λ (k : ℕ). Ends failed k left rest status) e (subst (λ (k : ℕ). Ends failed n k rest status) f ends)

-- no frame
pub body_end : (failed : Bool) (before room : ℕ) (text : List ℕ) (status : Status) → Ends failed before room text status → IsBody failed before room text [] status
body_end failed before room text status ends = record {
  rest = text;
  split = refl;
  sizes = All-nil IsPayload;
  few = omega arith;
  ends = same_ends failed before (before + 0) room (room - 0) text status (omega arith) (omega arith) ends;
}

-- one frame, and the rest of them
pub body_more : (failed : Bool) (before room : ℕ) (text x behind : List ℕ) (xs : List (List ℕ)) (status : Status)
    → IsPayload x → text ≡ frame_text x ++ behind → 0 < room → IsBody failed (before + 1) (room - 1) behind xs status → IsBody failed before room text (x ∷ xs) status
body_more failed before room text x behind xs status is split some body = record {
  rest = body.rest;
  split = split ∙ ap (λ (t : List ℕ). frame_text x ++ t) body.split ∙ sym (append_assoc (frame_text x) (flat_map frame_text xs) body.rest);
  sizes = All-cons IsPayload x xs is body.sizes;
  few = omega (arith, some, body.few);
  ends = same_ends failed (before + 1 + length xs) (before + length (x ∷ xs)) (room - 1 - length xs) (room - length (x ∷ xs)) body.rest status (omega arith) (omega arith) body.ends;
}

-- and the other way round
record IsMore (failed : Bool) (before room : ℕ) (text x : List ℕ) (xs : List (List ℕ)) (status : Status) : Type 0 where
  behind : List ℕ
  is : IsPayload x
  split : text ≡ frame_text x ++ behind
  some : 0 < room
  body : IsBody failed (before + 1) (room - 1) behind xs status

body_tail : (failed : Bool) (before room : ℕ) (text x : List ℕ) (xs : List (List ℕ)) (status : Status)
    → IsBody failed before room text (x ∷ xs) status → IsMore failed before room text x xs status
body_tail failed before room text x xs status body = record {
  behind = flat_map frame_text xs ++ body.rest;
  is = All-head IsPayload x xs body.sizes;
  split = body.split ∙ append_assoc (frame_text x) (flat_map frame_text xs) body.rest;
  some = omega (arith, body.few);
  body = record {
    rest = body.rest;
    split = refl;
    sizes = All-tail IsPayload x xs body.sizes;
    few = omega (arith, body.few);
    ends = same_ends failed (before + length (x ∷ xs)) (before + 1 + length xs) (room - length (x ∷ xs)) (room - 1 - length xs) body.rest status (omega arith) (omega arith) body.ends;
  };
}

-- ---- one reading

first_ends : (failed : Bool) (before room : ℕ) (text : List ℕ) (status : Status) → IsBody failed before room text [] status → Ends failed before room text status
first_ends failed before room text status body =
    subst (λ (t : List ℕ). Ends failed before room t status) (sym body.split)
    (same_ends failed (before + 0) before (room - 0) room body.rest status (omega arith) (omega arith) body.ends)

none_or_some : (failed : Bool) (before room : ℕ) (text y : List ℕ) (ys : List (List ℕ)) (s t : Status)
    → IsBody failed before room text [] s → IsBody failed before room text (y ∷ ys) t → ⊥
none_or_some failed before room text y ys s t none body =
    let more = body_tail failed before room text y ys t body in
    goes_on failed before room text y more.behind s more.is more.split more.some (first_ends failed before room text s none)

pub one_body : (failed : Bool) (before room : ℕ) (text : List ℕ) (xs ys : List (List ℕ)) (s t : Status)
    → IsBody failed before room text xs s → IsBody failed before room text ys t → (xs ≡ ys) × (s ≡ t)
one_body failed before room text [] [] s t a b =
    (refl, one_ending failed before room text s t (first_ends failed before room text s a) (first_ends failed before room text t b))
one_body failed before room text [] (y ∷ ys) s t a b = absurd (none_or_some failed before room text y ys s t a b)
one_body failed before room text (x ∷ xs) [] s t a b = absurd (none_or_some failed before room text x xs t s b a)
one_body failed before room text (x ∷ xs) (y ∷ ys) s t a b =
    let p = body_tail failed before room text x xs s a in
    let q = body_tail failed before room text y ys t b in
    let first = one_frame x y p.behind q.behind p.is q.is (sym p.split ∙ q.split) in
    let later = one_body failed (before + 1) (room - 1) p.behind xs ys s t p.body
    (subst (λ (text : List ℕ). IsBody failed (before + 1) (room - 1) text ys t) (sym first.1) q.body) in
    (ap (λ (l : List ℕ). l ∷ xs) first.0 ∙ ap (λ (l : List (List ℕ)). y ∷ l) later.0, later.1)

-- ---- every text has a reading

-- what stands at the front of a text
record IsFirst (text payload behind : List ℕ) (room : ℕ) : Type 0 where
  is : IsPayload payload
  split : text ≡ frame_text payload ++ behind
  some : 0 < room
  less : length behind < length text
  bytes : AreBytes behind

record Found (failed : Bool) (before room : ℕ) (text : List ℕ) : Type 0 where
  frames : List (List ℕ)
  status : Status
  body : IsBody failed before room text frames status

abbrev EndsSomehow : Bool → ℕ → ℕ → List ℕ → Type 0
EndsSomehow failed before room text = (status : Status) × Ends failed before room text status

-- the end mark, or what came of it
mark_ends : (failed : Bool) (before room : ℕ) (text : List ℕ) → 4 ≤ length text → number_at 4 text 0 ≡ 0 → EndsSomehow failed before room text
mark_ends failed before room text came none =
    elim (cases_lt (length text) 8) [
      | inl short ↦ (unfinished failed, ends_open failed before room text (inr (inl (record { none = none; part = short }))))
      | inr long ↦ elim (same_or_other (number_at 4 text 4) before) [
        | inl same ↦ (Whole, record { came = long; none = none; named = same })
        | inr other ↦ (Broken, inr (record { came = long; none = none; other = other }))
      ]
    ]
  where
    same_or_other : (m n : ℕ) → (m ≡ n) ⊎ (m ≡ n → ⊥)
    same_or_other m n = elim (cases_lt m n) [
      | inl less ↦ inr (λ e. omega arith)
      | inr past ↦ elim (cases_lt n m) [ inl more ↦ inr (λ e. omega arith) | inr le ↦ inl (omega arith) ]
    ]

-- a length that a frame may have
frame_or_end : (failed : Bool) (before room : ℕ) (text : List ℕ) → AreBytes text → 4 ≤ length text → 0 < number_at 4 text 0 → number_at 4 text 0 ≤ 65536
    → EndsSomehow failed before room text ⊎ ((payload : List ℕ) × (behind : List ℕ) × IsFirst text payload behind room)
frame_or_end failed before room text fit came some small =
    let n = number_at 4 text 0 in
    elim (cases_lt 0 room) [
      | inr full ↦ inl (TooLong, (omega arith, record { came = came; some = some; fits = small }))
      | inl free ↦ elim (cases_lt (length text) (4 + n)) [
        | inl short ↦ inl (unfinished failed, ends_open failed before room text (inr (inr (free, record { size = record { came = came; some = some; fits = small }; part = short }))))
        | inr long ↦ inr (
          take n (drop 4 text),
          drop (4 + n) text,
          record {
            is = (omega (arith, length-take n (drop 4 text), length-drop 4 text), omega (arith, length-take n (drop 4 text), length-drop 4 text));
            split = frame_found text n fit long refl;
            some = free;
            less = omega (arith, length-drop (4 + n) text);
            bytes = AreBytes-drop (4 + n) text fit;
          },
        )
      ]
    ]

front : (failed : Bool) (before room : ℕ) (text : List ℕ) → AreBytes text
    → EndsSomehow failed before room text ⊎ ((payload : List ℕ) × (behind : List ℕ) × IsFirst text payload behind room)
front failed before room text fit =
    elim (cases_lt (length text) 4) [
      | inl short ↦ inl (unfinished failed, ends_open failed before room text (inl short))
      | inr came ↦ elim (cases_lt 65536 (number_at 4 text 0)) [
        | inl great ↦ inl (Broken, inl (record { came = came; great = great }))
        | inr small ↦ elim (cases_lt 0 (number_at 4 text 0)) [
          | inr none ↦ inl (mark_ends failed before room text came (omega arith))
          | inl some ↦ frame_or_end failed before room text fit came some small
        ]
      ]
    ]

-- n is no less than the length of the text
found : (n : ℕ) (failed : Bool) (before room : ℕ) (text : List ℕ) → AreBytes text → length text < n → Found failed before room text
found zero failed before room text fit less = absurd (omega arith)
found (suc n) failed before room text fit less =
    elim (front failed before room text fit) [
      | inl (status, ends) ↦ record { frames = []; status = status; body = body_end failed before room text status ends }
      | inr (payload, behind, first) ↦
          let later = found n failed (before + 1) (room - 1) behind first.bytes (omega (arith, first.less)) in
          record {
            frames = payload ∷ later.frames;
            status = later.status;
            body = body_more failed before room text payload behind later.frames later.status first.is first.split first.some later.body;
          }
    ]

pub body_found : (failed : Bool) (before room : ℕ) (text : List ℕ) → AreBytes text → (r : Reading) × IsBody failed before room text r.frames r.status
body_found failed before room text fit =
    let f = found (length text + 1) failed before room text fit (omega arith) in
    (record { frames = f.frames; status = f.status }, f.body)
