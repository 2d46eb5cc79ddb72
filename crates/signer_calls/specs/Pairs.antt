-- A renewal and a file that one body spells.
use Rattle.std.specs.Prelude.{◌≡◌, ◌<◌, ◌^◌, ◌++◌, ℕ, List, length}
use Rattle.byteorder.specs.Endian.{big_bytes}

-- the length of the renewal, highest byte first, the renewal, and the file
pub record SpellsPair (body renewal file : List ℕ) : Type 0 where
  pub fits : length renewal < 2 ^ 32
  pub text : body ≡ big_bytes 4 (length renewal) ++ (renewal ++ file)

-- the body spells none
abbrev pub SpellsNoPair : List ℕ → Type 0
SpellsNoPair body = (renewal file : List ℕ) → SpellsPair body renewal file → ⊥
