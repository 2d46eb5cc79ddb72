-- Endorsements: a replica's statement of its next keys, signed with a present one, as docs/FORMATS.md, "Endorsement", lays it out.
use Rattle.std.specs.Prelude.{◌≡◌, ◌≢◌, ◌<◌, ◌^◌, ◌-◌, ◌++◌, ℕ, List, ◌∷◌, length, take, drop, slice_index}
use Rattle.lms_tree.specs.Tree.{Verifies}
use Rattle.lms_tree.specs.declared.TheConstants.{SIGNATURE_LEN}
use Rattle.blocks.specs.Committees.{n_of, keys_of, key_id_at, root_at}
use Rattle.blocks.specs.Genesis.{chain_id_of}
use Rattle.certificates.specs.Statements.{statement_text}
use Rattle.handover_keys.specs.BoundIds.{bound_id}
use Rattle.handover_keys.specs.NextKeys.{NextKeys, chain_in, count_in, key_id_in, next_keys_text, replica_in}
use Rattle.handover_keys.specs.NextKeysReading.{IsStatement}
use Rattle.handover_keys.specs.declared.endorsement.TheConstants.{SEAL_LEN}

-- the statement, the number of the key that signed it, and the signature
abbrev pub endorsement_text : List ℕ → ℕ → List ℕ → List ℕ
endorsement_text statement key signature = statement ++ key ∷ signature

-- the bytes are those of this statement, of next keys, and of this signature by the key of this number
pub record IsEndorsementOf (bytes statement : List ℕ) (key : ℕ) (signature : List ℕ) : Type 0 where
  pub stated : IsStatement statement
  pub number : key < 2 ^ 8
  pub long : length signature ≡ SIGNATURE_LEN
  pub text : bytes ≡ endorsement_text statement key signature

-- ---- its parts at their places, which are counted from the end

abbrev pub statement_in : List ℕ → List ℕ
statement_in bytes = take (length bytes - SEAL_LEN) bytes

abbrev pub signing_key_in : List ℕ → ℕ
signing_key_in bytes = slice_index bytes (length bytes - SEAL_LEN)

abbrev pub signature_in : List ℕ → List ℕ
signature_in bytes = drop (length bytes - SIGNATURE_LEN) bytes

-- ---- when an endorsement is good

-- the id of each key that is stated is bound to its place behind the committee whose chain is stated
pub record HasBoundIds (statement : List ℕ) : Type 0 where
  pub each : (k : ℕ) → k < count_in statement → key_id_in statement k ≡ bound_id (chain_in statement) (replica_in statement) k

-- a replica of the committee signed the bytes with its key of this number
abbrev pub IsSigned : List ℕ → ℕ → ℕ → List ℕ → List ℕ → Type 0
IsSigned committee replica key message signature = Verifies (key_id_at committee replica key) (root_at committee replica key) message signature

-- a replica of the committee signed with one of its keys that its next ones behind this committee are these: as many as it has, each
-- with the id that is bound to its place
pub record IsGoodEndorsement (committee bytes : List ℕ) : Type 0 where
  pub statement : IsStatement (statement_in bytes)
  pub chain : chain_in (statement_in bytes) ≡ chain_id_of committee
  pub known : replica_in (statement_in bytes) < n_of committee
  pub count : count_in (statement_in bytes) ≡ keys_of committee (replica_in (statement_in bytes))
  pub bound : HasBoundIds (statement_in bytes)
  pub key : signing_key_in bytes < keys_of committee (replica_in (statement_in bytes))
  pub signed : IsSigned committee (replica_in (statement_in bytes)) (signing_key_in bytes) (statement_in bytes) (signature_in bytes)

-- ---- no statement is a vote

-- no text states next keys and is what a vote signs
abbrev pub NoStatementIsAVote : Type 0
NoStatementIsAVote = (v : NextKeys) (chain : List ℕ) (view : ℕ) (id : List ℕ) → next_keys_text v ≢ statement_text chain view id

-- .. nor is any that is read as a statement of next keys
abbrev pub NothingReadIsAVote : Type 0
NothingReadIsAVote = (bytes chain : List ℕ) (view : ℕ) (id : List ℕ) → IsStatement bytes → bytes ≢ statement_text chain view id
