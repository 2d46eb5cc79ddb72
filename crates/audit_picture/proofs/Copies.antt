-- A list that is made item by item from another.
use Rattle.std.proofs.Common.{◌≡◌, ◌<◌, ◌+◌, ◌∙◌, ℕ, List, [], ◌∷◌, ◌++◌, length, map, take, get_or, sym, ap, add-one}
use Rattle.std.proofs.Math.Seq.{take-suc}
use Rattle.std.proofs.lemmas.List.{map-append}

-- what `g` gives of each item is the next of the other list
pub next_copied : {X Y : Type 0} (g : Y → X) (xs : List X) (ys : List Y) (i : ℕ) (x : X) (y : Y) → i < length xs → x ≡ get_or xs i x → g y ≡ x → map g ys ≡ take i xs
    → map g (ys ++ y ∷ []) ≡ take (i + 1) xs
next_copied g xs ys i x y within is of same =
    let grown : take i xs ++ get_or xs i x ∷ [] ≡ take (i + 1) xs = rw add-one (sym (take-suc xs i x within)) in
    map-append g ys (y ∷ []) ∙ ap (λ zs. zs ++ g y ∷ []) same ∙ ap (λ z. take i xs ++ z ∷ []) (of ∙ is) ∙ grown

-- .. is what `f` gives of the next of the other list
pub next_mapped : {X Y Z : Type 0} (f : X → Z) (g : Y → Z) (xs : List X) (ys : List Y) (i : ℕ) (x : X) (y : Y) → i < length xs → x ≡ get_or xs i x → g y ≡ f x
    → map g ys ≡ map f (take i xs) → map g (ys ++ y ∷ []) ≡ map f (take (i + 1) xs)
next_mapped f g xs ys i x y within is of same =
    let grown : take i xs ++ get_or xs i x ∷ [] ≡ take (i + 1) xs = rw add-one (sym (take-suc xs i x within)) in
    map-append g ys (y ∷ []) ∙ ap (λ zs. zs ++ g y ∷ []) same ∙ ap (λ z. map f (take i xs) ++ z ∷ []) (of ∙ ap f is)
    ∙ sym (map-append f (take i xs) (get_or xs i x ∷ [])) ∙ ap (map f) grown
