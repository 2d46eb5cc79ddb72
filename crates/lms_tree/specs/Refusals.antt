-- Why a signature is refused.
use Rattle.std.specs.Prelude.{◌≡◌, ◌≢◌, ℕ, ◌<◌, ◌≤◌, List, length}
use Rattle.base_wire.specs.Pieces.{number_at}
use Rattle.lms_tree.specs.declared.verification.SigRefusal.{SigRefusal}
use Rattle.lms_tree.specs.declared.verification.SigRefusal.TheVariants.{Length, Index, OtsType, TreeType, Root}
use Rattle.lms_tree.specs.Tree.{root_from_path}
use Rattle.lms_tree.specs.declared.TheConstants.{LEAVES, SIGNATURE_LEN, TREE_TYPE_AT}

-- the number of a refusal
abbrev pub sig_refusal_number : SigRefusal → ℕ
sig_refusal_number Length = 1
sig_refusal_number Index = 2
sig_refusal_number OtsType = 3
sig_refusal_number TreeType = 4
sig_refusal_number Root = 5

-- the bytes pass the tests before this one, and fail this one
abbrev pub IsSigRefusal : SigRefusal → List ℕ → List ℕ → List ℕ → List ℕ → Type 0
IsSigRefusal Length id root message signature = length signature ≢ SIGNATURE_LEN
IsSigRefusal Index id root message signature = (length signature ≡ SIGNATURE_LEN) × (LEAVES ≤ number_at 4 signature 0)
IsSigRefusal OtsType id root message signature =
    (length signature ≡ SIGNATURE_LEN) × (number_at 4 signature 0 < LEAVES) × (number_at 4 signature 4 ≢ 4)
IsSigRefusal TreeType id root message signature =
    (length signature ≡ SIGNATURE_LEN) × (number_at 4 signature 0 < LEAVES) × (number_at 4 signature 4 ≡ 4)
    × (number_at 4 signature TREE_TYPE_AT ≢ 6)
IsSigRefusal Root id root message signature =
    (length signature ≡ SIGNATURE_LEN) × (number_at 4 signature 0 < LEAVES) × (number_at 4 signature 4 ≡ 4)
    × (number_at 4 signature TREE_TYPE_AT ≡ 6) × (root_from_path id message signature ≢ root)
