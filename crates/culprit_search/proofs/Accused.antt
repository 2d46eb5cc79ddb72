-- A test of what is read off each element.
use Rattle.std.proofs.Common.{◌≡◌, ◌∷◌, [], ◌||◌, Bool, List, map, refl, ap}
use Rattle.std.specs.List.{list_any}

pub any_read : {X Y : Type 0} (p : Y → Bool) (read : X → Y) (xs : List X) → list_any p (map read xs) ≡ list_any (λ x. p (read x)) xs
any_read p read [] = refl
any_read p read (x ∷ xs) = ap (λ (b : Bool). p (read x) || b) (any_read p read xs)
