-- Texts that are put together from those of the items of a list.
use Rattle.std.specs.Prelude.{ℕ, ◌≡◌, ◌+◌, ◌++◌, List, [], ◌∷◌}

-- a text was added, of which this holds
abbrev pub Adds : List ℕ → List ℕ → (List ℕ → Type 0) → Type 0
Adds text text' Holds = (added : List ℕ) × Holds added × (text' ≡ text ++ added)

-- item by item, numbered from k on, each with a text of which `IsOf` holds
abbrev pub AreOf : {X : Type 0} → (ℕ → X → List ℕ → Type 0) → ℕ → List X → List ℕ → Type 0
AreOf IsOf k [] text = text ≡ []
AreOf IsOf k (x ∷ xs) text =
    (first : List ℕ) × (rest : List ℕ) × IsOf k x first × AreOf IsOf (k + 1) xs rest × (text ≡ first ++ rest)
