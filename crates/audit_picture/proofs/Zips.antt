-- Two lists, element by element.
use Rattle.std.proofs.Common.{◌≡◌, ◌<◌, ◌+◌, ℕ, List, [], ◌∷◌, ◌++◌, length, take, get_or, sym, subst, add-one}
use Rattle.std.proofs.Math.Seq.{take-suc}
use Rattle.std.proofs.lemmas.Slice.Zip.{all_zipped_more}
use Rattle.std.specs.List.{AllZip}

-- the first of a list, and one more of it
pub zip_more : {X Y : Type 0} (R : X → Y → Type 0) (xs : List X) (ys : List Y) (i : ℕ) (d : X) (y : Y) → i < length xs
    → AllZip R (take i xs) ys → R (get_or xs i d) y → AllZip R (take (i + 1) xs) (ys ++ y ∷ [])
zip_more R xs ys i d y within zip one =
    let grown : take i xs ++ get_or xs i d ∷ [] ≡ take (i + 1) xs = rw add-one (sym (take-suc xs i d within)) in
    subst (λ zs. AllZip R zs (ys ++ y ∷ [])) grown (all_zipped_more R (take i xs) ys (get_or xs i d) y zip one)
