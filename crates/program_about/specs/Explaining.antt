-- What is said of a printed line.
use Rattle.std.specs.Prelude.{ℕ, ◌≡◌, ◌≢◌, ◌++◌, Bool, true, false, List, [], codes}
use Rattle.std.specs.List.{flat_map}

-- "PROGRAMS: MEANING", and below it what to do
unfoldable pub said : List ℕ → List ℕ → List ℕ → List ℕ
said programs meaning advice = programs ++ codes ": " ++ meaning ++ codes "\n  " ++ advice ++ codes "\n"

-- what one row adds, if it fits the line
abbrev pub IsSaid : List ℕ → List ℕ → Bool → Type 0
IsSaid old new true =
    (programs : List ℕ) × (meaning : List ℕ) × (advice : List ℕ) × (new ≡ old ++ said programs meaning advice)
IsSaid old new false = new ≡ old

-- which programs print such a line, what it means, and what to do
pub record Row : Type 0 where
  pub programs : List ℕ
  pub meaning : List ℕ
  pub advice : List ℕ

abbrev pub row_text : Row → List ℕ
row_text row = said row.programs row.meaning row.advice

-- what all rows add: those that fit, one behind the other and each whole, and nothing where none fits
abbrev pub AreSaid : List ℕ → List ℕ → Bool → Type 0
AreSaid old new true = (rows : List Row) × (rows ≢ []) × (new ≡ old ++ flat_map row_text rows)
AreSaid old new false = new ≡ old
