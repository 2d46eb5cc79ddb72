-- The least of numbers.
use Rattle.std.specs.Prelude.{◌≤◌, ℕ, min, Option, None, Some}

-- the least number of which this holds, or none where it holds of no number
abbrev pub IsLeast : (ℕ → Type 0) → Option ℕ → Type 0
IsLeast Holds None = (n : ℕ) → Holds n → ⊥
IsLeast Holds (Some least) = Holds least × ((n : ℕ) → Holds n → least ≤ n)

-- the lesser of two numbers, where there are two, else the one that there is
abbrev pub lesser : Option ℕ → Option ℕ → Option ℕ
lesser None b = b
lesser (Some a) None = Some a
lesser (Some a) (Some b) = Some (min a b)
