-- When a committee renews another by a renewal.
use Rattle.std.specs.Prelude.{◌≡◌, ◌<◌, ◌≤◌, nat_eq, ℕ, false, List, Option, IsSomeAnd, take}
use Rattle.std.specs.List.{find}
use Rattle.sha2.specs.Sha256.{sha256}
use Rattle.lms_tree.specs.Tree.{Verifies}
use Rattle.blocks.specs.Committees.{n_of, keys_of, key_id_at, root_at, weight_at}
use Rattle.blocks.specs.Genesis.{chain_id_of}
use Rattle.blocks.specs.Weights.{quorum_of}
use Rattle.certificates.specs.declared.certificate.Endorsement.{Endorsement}
use Rattle.handover_keys.specs.BoundIds.{bound_id}
use Rattle.handover_keys.specs.NextKeys.{next_keys_text}
use Rattle.handover_renewals.specs.Renewals.{Renewal}
use Rattle.handover_renewals.specs.Slots.{is_kept, new_weight, slot_statement}

-- ---- both committees

-- the renewal names the one as the committee before, and the file of the other
pub record IsBetween (old new : List ℕ) (r : Renewal) : Type 0 where
  pub chain : r.chain ≡ chain_id_of old
  pub file : r.certificate.id ≡ sha256 new

-- both files have one format, which the first four bytes say
abbrev pub HaveOneFormat : List ℕ → List ℕ → Type 0
HaveOneFormat old new = take 4 new ≡ take 4 old

-- .. and as many replicas
pub record HaveOneSize (old new : List ℕ) (r : Renewal) : Type 0 where
  pub between : IsBetween old new r
  pub format : HaveOneFormat old new
  pub size : n_of new ≡ n_of old

-- ---- each slot

-- each slot of a committee passes a test
abbrev pub AllSlots : List ℕ → (ℕ → Type 0) → Type 0
AllSlots committee P = (s : ℕ) → s < n_of committee → P s

-- its weight is the same
abbrev pub HasWeight : List ℕ → List ℕ → ℕ → Type 0
HasWeight old new s = weight_at new s ≡ weight_at old s

-- it has as many keys
abbrev pub HasCount : List ℕ → List ℕ → ℕ → Type 0
HasCount old new s = keys_of new s ≡ keys_of old s

-- the ids of its first n keys are bound to their places behind the old committee
abbrev pub AreBound : List ℕ → List ℕ → ℕ → ℕ → Type 0
AreBound old new s n = (k : ℕ) → k < n → key_id_at new s k ≡ bound_id (chain_id_of old) s k

-- if it is not kept, those of all its keys are
pub record HasIds (old new : List ℕ) (s : ℕ) : Type 0 where
  pub bound : is_kept old new s ≡ false → AreBound old new s (keys_of old s)

-- the signature verifies under the key of this number that the slot has in the old committee, on the statement that its next keys are
-- those of the new one
abbrev pub VerifiesUnder : List ℕ → List ℕ → ℕ → ℕ → List ℕ → Type 0
VerifiesUnder old new s key signature = Verifies (key_id_at old s key) (root_at old s key) (next_keys_text (slot_statement (chain_id_of old) new s)) signature

-- .. and there is such a key
pub record IsGoodFor (old new : List ℕ) (s : ℕ) (e : Endorsement) : Type 0 where
  pub key : e.key < keys_of old s
  pub verifies : VerifiesUnder old new s e.key e.signature

-- the signature that the renewal has of a replica
abbrev pub signature_of : Renewal → ℕ → Option Endorsement
signature_of r s = find (λ e. nat_eq e.replica s) r.certificate.entries

-- if it is not kept, the renewal has such a signature of it
pub record IsSigned (old new : List ℕ) (r : Renewal) (s : ℕ) : Type 0 where
  pub signed : is_kept old new s ≡ false → IsSomeAnd (signature_of r s) (IsGoodFor old new s)

-- ---- renewing

-- both committees have one format, size, weights and counts of keys
pub record HaveOneShape (old new : List ℕ) (r : Renewal) : Type 0 where
  pub one_size : HaveOneSize old new r
  pub weights : AllSlots old (HasWeight old new)
  pub counts : AllSlots old (HasCount old new)

-- .. and each slot is kept, or has bound ids and its replica's signature
pub record HaveGoodSlots (old new : List ℕ) (r : Renewal) : Type 0 where
  pub shape : HaveOneShape old new r
  pub ids : AllSlots old (HasIds old new)
  pub signed : AllSlots old (IsSigned old new r)

-- .. and those that are not kept weigh a quorum
pub record Renews (old new : List ℕ) (r : Renewal) : Type 0 where
  pub slots : HaveGoodSlots old new r
  pub enough : quorum_of old ≤ new_weight old new
