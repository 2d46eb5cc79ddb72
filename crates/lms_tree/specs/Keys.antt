-- Which bytes are a public key (RFC 8554, section 5.3), and why others are not.
use Rattle.std.specs.Prelude.{◌≡◌, ◌≢◌, ℕ, List, length}
use Rattle.base_wire.specs.Pieces.{number_at}
use Rattle.lms_tree.specs.declared.public_key.KeyRefusal.{KeyRefusal}
use Rattle.lms_tree.specs.declared.public_key.KeyRefusal.TheVariants.{Length, TreeType, OtsType}

-- the bytes have the length and the types of a public key
pub record IsPublicKey (bytes : List ℕ) : Type 0 where
  pub long : length bytes ≡ 56
  pub tree_type : number_at 4 bytes 0 ≡ 6
  pub ots_type : number_at 4 bytes 4 ≡ 4

-- the number of a refusal
abbrev pub key_refusal_number : KeyRefusal → ℕ
key_refusal_number Length = 1
key_refusal_number TreeType = 2
key_refusal_number OtsType = 3

-- the bytes pass the tests before this one, and fail this one
abbrev pub IsKeyRefusal : KeyRefusal → List ℕ → Type 0
IsKeyRefusal Length bytes = length bytes ≢ 56
IsKeyRefusal TreeType bytes = (length bytes ≡ 56) × (number_at 4 bytes 0 ≢ 6)
IsKeyRefusal OtsType bytes = (length bytes ≡ 56) × (number_at 4 bytes 0 ≡ 6) × (number_at 4 bytes 4 ≢ 4)
