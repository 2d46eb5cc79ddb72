-- Why bytes are no one-time signature.
use Rattle.std.specs.Prelude.{◌≡◌, ◌≢◌, ℕ, List, length}
use Rattle.base_wire.specs.Pieces.{number_at}
use Rattle.lmots.specs.declared.signatures.TheConstants.{OTS_SIGNATURE_LEN}
use Rattle.lmots.specs.declared.signatures.OtsRefusal.{OtsRefusal}
use Rattle.lmots.specs.declared.signatures.OtsRefusal.TheVariants.{Length, OtsType}

-- the number of a refusal
abbrev pub ots_refusal_number : OtsRefusal → ℕ
ots_refusal_number Length = 1
ots_refusal_number OtsType = 2

-- the bytes pass the tests before this one, and fail this one
abbrev pub IsOtsRefusal : OtsRefusal → List ℕ → Type 0
IsOtsRefusal Length signature = length signature ≢ OTS_SIGNATURE_LEN
IsOtsRefusal OtsType signature = (length signature ≡ OTS_SIGNATURE_LEN) × (number_at 4 signature 0 ≢ 4)
