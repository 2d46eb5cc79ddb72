-- The seeds that words name.
use Rattle.std.specs.Prelude.{◌≡◌, ◌⊎◌, ℕ, List, [], ◌∷◌, ◌++◌, IfSome, Option, Ok}
use Rattle.hex.specs.Hex.{decode_of}
use Rattle.program_words.specs.declared.command.SeedWord.{SeedWord}
use Rattle.program_words.specs.declared.command.SeedWord.TheVariants.{Digits, Random, Stdin}

-- the text is these digits, with or without a line feed behind them
abbrev pub IsLineOf : List ℕ → List ℕ → Type 0
IsLineOf digits text = (text ≡ digits) ⊎ (text ≡ digits ++ 10 ∷ [])

-- the bytes that digits spell, those that may be drawn, or those that the digits spell which are all of the input, where
-- that tells what it has left
abbrev pub IsSeedOf : (List ℕ → Type 0) → Option (List ℕ) → SeedWord → List ℕ → Type 0
IsSeedOf Draws rest (Digits digits) bytes = decode_of digits.now ≡ Ok bytes
IsSeedOf Draws rest Random bytes = Draws bytes
IsSeedOf Draws rest Stdin bytes = (digits : List ℕ) × (decode_of digits ≡ Ok bytes) × IfSome rest (IsLineOf digits)
