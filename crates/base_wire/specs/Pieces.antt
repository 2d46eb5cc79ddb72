-- Parts of a text of bytes at fixed places, and the numbers that they spell.
use Rattle.std.specs.Prelude.{ℕ, ◌<◌, List, take, drop, slice_index}
use Rattle.byteorder.specs.Endian.{big_number}

-- the n bytes from place `at` on
abbrev pub piece : ℕ → List ℕ → ℕ → List ℕ
piece n bytes at = take n (drop at bytes)

-- the number that they spell, the highest byte first
unfoldable pub number_at : ℕ → List ℕ → ℕ → ℕ
number_at n bytes at = big_number n (piece n bytes at)

-- each item is a byte
abbrev pub AreBytes : List ℕ → Type 0
AreBytes bytes = (i : ℕ) → slice_index bytes i < 256
