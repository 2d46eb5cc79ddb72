-- Two lists, element by element.
use Rattle.std.proofs.Common.{◌≡◌, ◌<◌, ◌≤◌, ◌+◌, ℕ, zero, suc, List, [], ◌∷◌, ◌++◌, length, take, get_or, sym, subst, arith, add-one, get_or-take}
use Rattle.std.proofs.Math.Seq.{take-suc}
use Rattle.std.proofs.lemmas.List.{length-take-le}
use Rattle.std.proofs.lemmas.Slice.Zip.{all_zipped_more}
use Rattle.std.specs.List.{All, AllWithin, AllZip}

-- each of the first has a partner
partner : {X Y : Type 0} (R : X → Y → Type 0) (xs : List X) (ys : List Y) → AllZip R xs ys → (k : ℕ) (d : X) → k < length xs → (y : Y) × R (get_or xs k d) y
partner R [] ys zip k d within = absurd (omega arith)
partner R (a ∷ xs) [] zip k d within = absurd zip
partner R (a ∷ xs) (b ∷ ys) zip zero d within = (b, zip.0)
partner R (a ∷ xs) (b ∷ ys) zip (suc k) d within = partner R xs ys zip.1 k d (omega arith)

pub partners_before : {X Y : Type 0} (R : X → Y → Type 0) (xs : List X) (ys : List Y) (i : ℕ) → i ≤ length xs → AllZip R (take i xs) ys
    → AllWithin (λ x. (y : Y) × R x y) xs 0 i
partners_before {X} {Y} R xs ys i within zip k d low high =
    let inside : k < length (take i xs) = omega (arith, length-take-le i xs within) in
    subst (λ x. (y : Y) × R x y) (get_or-take i xs k d high) (partner R (take i xs) ys zip k d inside)

-- by way of a third list
pub zip_through : {X Y Z : Type 0} (R : X → Y → Type 0) (S : Y → Z → Type 0) (T : X → Z → Type 0) → ((x : X) (y : Y) (z : Z) → R x y → S y z → T x z)
    → (xs : List X) (ys : List Y) (zs : List Z) → AllZip R xs ys → AllZip S ys zs → AllZip T xs zs
zip_through R S T by [] [] [] r s = tt
zip_through R S T by [] [] (c ∷ zs) r s = absurd s
zip_through R S T by [] (b ∷ ys) zs r s = absurd r
zip_through R S T by (a ∷ xs) [] zs r s = absurd r
zip_through R S T by (a ∷ xs) (b ∷ ys) [] r s = absurd s
zip_through R S T by (a ∷ xs) (b ∷ ys) (c ∷ zs) r s = (by a b c r.0 s.0, zip_through R S T by xs ys zs r.1 s.1)
