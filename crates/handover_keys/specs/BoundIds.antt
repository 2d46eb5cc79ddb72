-- The ids that bind a replica's next keys to their place, as docs/FORMATS.md, "Bound key ids", says.
use Rattle.std.specs.Prelude.{◌≡◌, ◌≢◌, ◌<◌, ◌^◌, ℕ, List, [], ◌∷◌, ◌++◌, codes, length, take}
use Rattle.byteorder.specs.Endian.{big_bytes}
use Rattle.sha2.specs.Sha256.{sha256}

-- "HSI1", the chain id of the committee before, the replica, and the number of its key
unfoldable pub bound_id_text : List ℕ → ℕ → ℕ → List ℕ
bound_id_text chain replica key = codes "HSI1" ++ (chain ++ (big_bytes 2 replica ++ key ∷ []))

-- the first 16 bytes of the digest of that
unfoldable pub bound_id : List ℕ → ℕ → ℕ → List ℕ
bound_id chain replica key = take 16 (sha256 (bound_id_text chain replica key))

-- a place of a key: a chain id of 32 bytes, a replica of two, a number of one
pub record IsPlace (chain : List ℕ) (replica key : ℕ) : Type 0 where
  pub long : length chain ≡ 32
  pub two_bytes : replica < 2 ^ 16
  pub one_byte : key < 2 ^ 8

-- the texts of two places, if they are different, have digests with different first 16 bytes
abbrev pub AreApart : List ℕ → ℕ → ℕ → List ℕ → ℕ → ℕ → Type 0
AreApart chain replica key chain' replica' key' =
    bound_id_text chain replica key ≢ bound_id_text chain' replica' key' → bound_id chain replica key ≢ bound_id chain' replica' key'

-- an id is bound to one place
abbrev pub AnIdIsBoundToOnePlace : Type 0
AnIdIsBoundToOnePlace =
    (id chain chain' : List ℕ) (replica replica' key key' : ℕ) → IsPlace chain replica key → IsPlace chain' replica' key'
    → AreApart chain replica key chain' replica' key' → id ≡ bound_id chain replica key → id ≡ bound_id chain' replica' key'
    → (chain ≡ chain') × (replica ≡ replica') × (key ≡ key')
