-- Logs that begin with others.
use Rattle.std.proofs.Common.{◌≡◌, ◌∙◌, ◌<◌, ◌++◌, ◌∷◌, ℕ, List, [], Bool, true, Option, Some, length, take, drop, arith, sym, ap}
use Rattle.std.specs.Prelude.{slice_get}
use Rattle.std.proofs.Math.Seq.{get_or-append_seam}
use Rattle.std.proofs.lemmas.List.{append_assoc, length-append}
use Rattle.std.proofs.lemmas.Option.{slice_get-get_or, slice_get_within}
use Rattle.std.specs.Cmp.Lexicographic.{pointwise}
use Rattle.std.specs.Str.{bytes_eq}
use Rattle.std.proofs.lemmas.Slice.Eq.{bytes_eq-Decides, slice_eq-Decides, starts_is}
use Rattle.log_reading.specs.Following.{BeginsWith}

pub begins : (with log : List (List ℕ)) (r : Bool) → r ≡ pointwise bytes_eq with (take (length with) log) → (r ≡ true → BeginsWith with log) × (BeginsWith with log → r ≡ true)
begins with log r is =
    let s = starts_is bytes_eq-Decides log with r is in
    (λ t. (drop (length with) log, s.0 t), λ w. s.1 w.0 w.1)

pub equals : (xs ys : List (List ℕ)) (r : Bool) → r ≡ pointwise bytes_eq xs ys → (r ≡ true → xs ≡ ys) × (xs ≡ ys → r ≡ true)
equals xs ys r is = slice_eq-Decides bytes_eq-Decides xs ys r is

-- what stands behind the front is there
pub get_next : (front rest : List (List ℕ)) (next : List ℕ) → slice_get (front ++ next ∷ rest) (length front) ≡ Some next
get_next front rest next =
    let log : List (List ℕ) = front ++ next ∷ rest in
    let inside : length front < length log = omega (arith, length-append front (next ∷ rest)) in
    slice_get-get_or log (length front) next inside ∙ ap Some (get_or-append_seam front next rest next)

pub begins_one_more : (front log : List (List ℕ)) (next : List ℕ) → slice_get log (length front) ≡ Some next → BeginsWith front log → BeginsWith (front ++ next ∷ []) log
begins_one_more front log next there w = one_more front w.0 log next there w.1 where
  one_more : (front rest log : List (List ℕ)) (next : List ℕ) → slice_get log (length front) ≡ Some next → log ≡ front ++ rest → BeginsWith (front ++ next ∷ []) log
  one_more front [] log next there is =
      let inside : length front < length log = slice_get_within log (length front) next there in
      absurd (omega (arith, inside, ap length is, length-append front []))
  one_more front (x ∷ rest) log next there is =
      let same : Some x ≡ Some next = sym (get_next front rest x) ∙ ap (λ (l : List (List ℕ)). slice_get l (length front)) (sym is) ∙ there in
      let e : x ≡ next = cc in
      (rest, is ∙ ap (λ (y : List ℕ). front ++ y ∷ rest) e ∙ sym (append_assoc front (next ∷ []) rest))

pub begins_one_less : (front log : List (List ℕ)) (next : List ℕ) → BeginsWith (front ++ next ∷ []) log → BeginsWith front log
begins_one_less front log next w = (next ∷ w.0, w.1 ∙ append_assoc front (next ∷ []) w.0)

pub begins_there : (front log : List (List ℕ)) (next : List ℕ) → BeginsWith (front ++ next ∷ []) log → slice_get log (length front) ≡ Some next
begins_there front log next w =
    ap (λ (l : List (List ℕ)). slice_get l (length front)) (w.1 ∙ append_assoc front (next ∷ []) w.0) ∙ get_next front w.0 next

-- a frame that was found is another one where they are equal
pub same_frame : (found : Option (List ℕ)) (x y : List ℕ) (r : Bool) → found ≡ Some x → r ≡ bytes_eq x y → (r ≡ true → found ≡ Some y) × (found ≡ Some y → r ≡ true)
same_frame found x y r is e =
    let d = bytes_eq-Decides x y in
    (λ t. is ∙ ap Some (d.0 (sym e ∙ t)), λ same. e ∙ d.1 (let two : Some x ≡ Some y = sym is ∙ same in cc))
