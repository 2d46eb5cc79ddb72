-- Pieces of a line that are written one after the other.
use Rattle.std.proofs.Common.{inl, inr, ◌≡◌, ◌+◌, ◌<◌, ℕ, List, [], ◌∷◌, ◌++◌, false, Option, Some, None, length, get_or, refl, sym, ap, ◌∙◌, subst, append_assoc, take, drop, arith}
use Rattle.std.specs.Prelude.{Result, Ok, Err, OnErr, OnOk}
use Rattle.std.proofs.lemmas.List.{append-nil, take_all, take_at, take-append-le}
use Rattle.std.proofs.lemmas.Bool.{cases_lt}
use Rattle.std.proofs.lemmas.Grind.{flat_map-append}
use Rattle.std.proofs.Math.Seq.{take-append-add}
use Rattle.base_streams.specs.Streams.{Wrote, WrotePart}
use Rattle.base_streams.proofs.Writing.{wrote_both}
use Rattle.base_text.specs.Printed.{is_plain, escape, printed, printed_byte}

pub on_err : {T E : Type 0} (r : Result T E) (P : Type 0) → P → OnErr r P
on_err (Ok x) P holds = tt
on_err (Err e) P holds = holds

pub on_err_too : {T E : Type 0} (r : Result T E) (P Q : Type 0) → (P → Q) → OnErr r P → OnErr r Q
on_err_too (Ok x) P Q so holds = tt
on_err_too (Err e) P Q so holds = so holds

pub on_ok_too : {T E : Type 0} (r : Result T E) (P Q : Type 0) → (P → Q) → OnOk r P → OnOk r Q
on_ok_too (Ok x) P Q so holds = so holds
on_ok_too (Err e) P Q so holds = tt

-- a part of the front is a part of the whole
pub part_of_front : (before after : Option (List ℕ)) (first second : List ℕ) → WrotePart before after first → WrotePart before after (first ++ second)
part_of_front None after first second part = tt
part_of_front (Some text) after first second part = elim (cases_lt (length first) part.0) [
  | inl past ↦ (length first, part.1 ∙ ap (λ (t : List ℕ). Some (text ++ t)) (take_all part.0 first (omega (arith, past)) ∙ sym (take_at first second (length first) refl)))
  | inr within ↦ (part.0, part.1 ∙ ap (λ (t : List ℕ). Some (text ++ t)) (sym (take-append-le part.0 first second within)))
]

-- behind what was written whole, a part of the rest
pub part_behind : (before mid after : Option (List ℕ)) (first second : List ℕ) → Wrote before mid first → WrotePart mid after second → WrotePart before after (first ++ second)
part_behind None mid after first second wrote part = tt
part_behind (Some text) mid after first second wrote part =
    let told : WrotePart (Some (text ++ first)) after second = subst (λ (m : Option (List ℕ)). WrotePart m after second) wrote part in (
      length first + told.0,
      told.1 ∙ ap (λ (t : List ℕ). Some t) (append_assoc text first (take told.0 second) ∙ ap (λ (t : List ℕ). text ++ t) (sym (take-append-add first second told.0))),
    )

-- what is printed of a byte that is not plain
pub byte_escaped : (byte : ℕ) → is_plain byte ≡ false → printed (byte ∷ []) ≡ escape byte
byte_escaped byte not = append-nil (printed_byte byte) ∙ (rw not refl)

-- the front of the rest was written, as it is printed: the rest begins behind it
pub next : (before mid after : Option (List ℕ)) (text done rest front later piece : List ℕ) → text ≡ done ++ rest → rest ≡ front ++ later → printed front ≡ piece
    → Wrote before mid (printed done) → Wrote mid after piece → (x : List ℕ) × (text ≡ x ++ later) × Wrote before after (printed x)
next before mid after text done rest front later piece whole parts same wrote more = (
  done ++ front,
  whole ∙ ap (λ (t : List ℕ). done ++ t) parts ∙ sym (append_assoc done front later),
  subst (λ (t : List ℕ). Wrote before after t) (ap (λ (t : List ℕ). printed done ++ t) (sym same) ∙ sym (flat_map-append printed_byte done front))
      (wrote_both before mid after (printed done) piece wrote more),
)

-- it was written in part
pub stop : (before mid after : Option (List ℕ)) (text done rest front later piece : List ℕ) → text ≡ done ++ rest → rest ≡ front ++ later → printed front ≡ piece
    → Wrote before mid (printed done) → WrotePart mid after piece → WrotePart before after (printed text)
stop before mid after text done rest front later piece whole parts same wrote part =
    let all : printed text ≡ printed done ++ (piece ++ printed later) =
    ap (λ (t : List ℕ). printed t) (whole ∙ ap (λ (t : List ℕ). done ++ t) parts) ∙ flat_map-append printed_byte done (front ++ later)
    ∙ ap (λ (t : List ℕ). printed done ++ t) (flat_map-append printed_byte front later ∙ ap (λ (t : List ℕ). t ++ printed later) same) in
    subst (λ (t : List ℕ). WrotePart before after t) (sym all)
    (part_behind before mid after (printed done) (piece ++ printed later) wrote (part_of_front mid after piece (printed later) part))

-- a list is its first element and the others
pub first_and_rest : (xs : List ℕ) → 0 < length xs → xs ≡ (get_or xs 0 0 ∷ []) ++ drop 1 xs
first_and_rest [] some = absurd (omega arith)
first_and_rest (x ∷ xs) some = refl
