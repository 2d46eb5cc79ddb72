-- A text with a piece written over what stands at a place.
use Rattle.std.proofs.Common.{◌≡◌, ℕ, ◌+◌, ◌-◌, ◌≤◌, List, ◌++◌, length, take, drop, refl, sym, ap, ◌∙◌, append_assoc, arith}
use Rattle.std.proofs.lemmas.List.{drop-drop, drop-take, drop_at, length-append, length-drop, length-take-le, take-append-drop, take-take, take_all, take_at}
use Rattle.base_wire.specs.Pieces.{piece}
use Rattle.handover_renewals.specs.Composing.{overwritten}

-- what `put` writes
pub put_is : (old new : List ℕ) (at : ℕ) (p : List ℕ) → take (at + length p) new ≡ take at old ++ p → drop (at + length p) new ≡ drop (at + length p) old
    → new ≡ overwritten old at p
put_is old new at p written rest =
    sym (take-append-drop (at + length p) new) ∙ (λ i. written i ++ rest i) ∙ append_assoc (take at old) p (drop (at + length p) old)

-- the text is as long as before
pub length-overwritten : (text : List ℕ) (at : ℕ) (p : List ℕ) → at + length p ≤ length text → length (overwritten text at p) ≡ length text
length-overwritten text at p fits =
    let rest = drop (at + length p) text in
    omega (arith, length-append (take at text) (p ++ rest), length-append p rest, length-take-le at text (omega arith), length-drop (at + length p) text)

-- ---- pieces of two texts that are the same in part

same_before : (a b : List ℕ) (at n i : ℕ) → take at a ≡ take at b → i + n ≤ at → piece n a i ≡ piece n b i
same_before a b at n i same inside =
    sym (drop-take i n a) ∙ ap (drop i) (sym (take-take (i + n) at a inside) ∙ ap (take (i + n)) same ∙ take-take (i + n) at b inside) ∙ drop-take i n b

same_behind : (a b : List ℕ) (at n i : ℕ) → drop at a ≡ drop at b → at ≤ i → piece n a i ≡ piece n b i
same_behind a b at n i same past =
    let there : at + (i - at) ≡ i = omega arith in
    let at_a : drop i a ≡ drop (i - at) (drop at a) = sym (drop-drop (i - at) at a ∙ ap (λ (j : ℕ). drop j a) there) in
    let at_b : drop (i - at) (drop at b) ≡ drop i b = drop-drop (i - at) at b ∙ ap (λ (j : ℕ). drop j b) there in
    ap (take n) (at_a ∙ ap (drop (i - at)) same ∙ at_b)

-- ---- what is before, behind and in the piece that was written

pub piece_before : (text : List ℕ) (at : ℕ) (p : List ℕ) (n i : ℕ) → at + length p ≤ length text → i + n ≤ at → piece n (overwritten text at p) i ≡ piece n text i
piece_before text at p n i fits inside =
    let long : length (take at text) ≡ at = length-take-le at text (omega arith) in
    same_before (overwritten text at p) text at n i (take_at (take at text) (p ++ drop (at + length p) text) at long) inside

-- from the place on
from_place : (text : List ℕ) (at : ℕ) (p : List ℕ) → at + length p ≤ length text → drop at (overwritten text at p) ≡ p ++ drop (at + length p) text
from_place text at p fits = drop_at (take at text) (p ++ drop (at + length p) text) at (length-take-le at text (omega arith))

pub piece_behind : (text : List ℕ) (at : ℕ) (p : List ℕ) (n i : ℕ) → at + length p ≤ length text → at + length p ≤ i → piece n (overwritten text at p) i ≡ piece n text i
piece_behind text at p n i fits past =
    let new = overwritten text at p in
    let rest = drop (at + length p) text in
    let same : drop (at + length p) new ≡ rest =
    sym (drop-drop (length p) at new) ∙ ap (drop (length p)) (from_place text at p fits) ∙ drop_at p rest (length p) refl in
    same_behind new text (at + length p) n i same past

pub piece_inside : (text : List ℕ) (at : ℕ) (p : List ℕ) (n j : ℕ) → at + length p ≤ length text → j + n ≤ length p → piece n (overwritten text at p) (at + j) ≡ piece n p j
piece_inside text at p n j fits inside =
    let rest = drop (at + length p) text in
    ap (take n) (sym (drop-drop j at (overwritten text at p)) ∙ ap (drop j) (from_place text at p fits))
    ∙ same_before (p ++ rest) p (length p) n j (take_at p rest (length p) refl ∙ sym (take_all (length p) p (omega arith))) inside
