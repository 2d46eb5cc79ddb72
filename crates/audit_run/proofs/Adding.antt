-- One value more of a list.
use Rattle.std.proofs.Common.{◌≡◌, ◌∙◌, ℕ, ◌+◌, ◌<◌, List, [], ◌∷◌, ◌++◌, length, take, get_or, sym, ap, add-one}
use Rattle.std.specs.Prelude.{map}
use Rattle.std.proofs.Math.Seq.{take-suc}
use Rattle.std.proofs.lemmas.List.{map-append}

pub one_more : {X V D : Type 0} (see : V → D) (f : X → D) (old new : List V) (v : V) (xs : List X) (k : ℕ) (d : X) → k < length xs
    → map see old ≡ map f (take k xs) → new ≡ old ++ v ∷ [] → see v ≡ f (get_or xs k d) → map see new ≡ map f (take (k + 1) xs)
one_more {X} {V} {D} see f old new v xs k d lt so_far here is =
    rw (add-one, take-suc xs k d lt) (ap (map see) here
    ∙ map-append see old (v ∷ [])
    ∙ ap (λ (ys : List D). ys ++ see v ∷ []) so_far
    ∙ ap (λ (y : D). map f (take k xs) ++ y ∷ []) is
    ∙ sym (map-append f (take k xs) (get_or xs k d ∷ [])))
