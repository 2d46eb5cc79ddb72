-- Ids as hex digits.
use Rattle.std.specs.Prelude.{ℕ, List, take}
use Rattle.hex.specs.Hex.{encode_lower}

-- all 64 digits
abbrev pub whole_id : List ℕ → List ℕ
whole_id id = encode_lower id

-- the first 8 digits of an id
abbrev pub short_id : List ℕ → List ℕ
short_id id = encode_lower (take 4 id)
