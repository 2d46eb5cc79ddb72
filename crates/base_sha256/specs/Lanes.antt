-- Vectors side by side: lane l of each is one computation.
use Rattle.std.specs.Prelude.{◌≡◌, ℕ, ◌*◌, ◌<◌, List, [], ◌∷◌, length, slice_index}
use Rattle.std.specs.Int.{byte_at, from_be_bytes, w32}
use Rattle.sha2.specs.Sha256.{initial_hash_256, rounds, schedule, word_at}

-- lane l of each vector
abbrev pub lane : ℕ → List (List ℕ) → List ℕ
lane l [] = []
lane l (x ∷ xs) = slice_index x l ∷ lane l xs

-- w has the sixteen words of the block b
abbrev pub AreWordsOf : List ℕ → List ℕ → Type 0
AreWordsOf w b = (k : ℕ) → k < 16 → slice_index w k ≡ word_at b (4 * k)

-- the first five words of the block b are the first five of w
abbrev pub BeginsSo : List ℕ → List ℕ → Type 0
BeginsSo b w = (k : ℕ) → k < 5 → slice_index w k ≡ word_at b (4 * k)

-- x is the word of a prefix's last two bytes and two that are clear
pub record IsRest (x : ℕ) (prefix : List ℕ) : Type 0 where
  pub long : length prefix ≡ 22
  pub word : x ≡ from_be_bytes w32 (slice_index prefix 20 ∷ slice_index prefix 21 ∷ 0 ∷ 0 ∷ [])
  pub small_20 : slice_index prefix 20 < 256
  pub small_21 : slice_index prefix 21 < 256

-- w has the words of a chain's prefix: five, and the rest
pub record IsFront (w prefix : List ℕ) : Type 0 where
  pub words : (k : ℕ) → k < 5 → slice_index w k ≡ word_at prefix (4 * k)
  pub rest : IsRest (slice_index w 5) prefix

-- v is where the first five rounds lead, of any block that begins with these words
abbrev pub IsAfterFive : List ℕ → List ℕ → Type 0
IsAfterFive v w = (b : List ℕ) → BeginsSo b w → v ≡ rounds initial_hash_256 (schedule b 48) 5

-- the last three bytes of a word and the first of the next
abbrev pub straddling_word : ℕ → ℕ → ℕ
straddling_word high low = from_be_bytes w32 (byte_at 2 high ∷ byte_at 1 high ∷ byte_at 0 high ∷ byte_at 3 low ∷ [])
