-- Texts and marks that are put together from those of the items of a list.
use Rattle.std.specs.Prelude.{ℕ, ◌≡◌, ◌+◌, ◌++◌, List, [], ◌∷◌}
use Rattle.program_show.specs.declared.mark.Mark.{Mark}

-- a text and the marks of the signatures in it were added, of which this holds
abbrev pub AddsText : List ℕ → List ℕ → List Mark → List Mark → (List ℕ → List Mark → Type 0) → Type 0
AddsText text text' marks marks' Holds =
    (added : List ℕ) × (seen : List Mark) × Holds added seen × (text' ≡ text ++ added) × (marks' ≡ marks ++ seen)

-- item by item, numbered from k on, each with a text and marks of which `IsOf` holds
abbrev pub AreOf : {X : Type 0} → (ℕ → X → List ℕ → List Mark → Type 0) → ℕ → List X → List ℕ → List Mark → Type 0
AreOf IsOf k [] text marks = (text ≡ []) × (marks ≡ [])
AreOf IsOf k (x ∷ xs) text marks =
    (first : List ℕ) × (seen : List Mark) × (rest : List ℕ) × (unseen : List Mark)
    × IsOf k x first seen × AreOf IsOf (k + 1) xs rest unseen × (text ≡ first ++ rest) × (marks ≡ seen ++ unseen)
