-- What holds of committees of which one renews the other.
use Rattle.std.specs.Prelude.{◌≡◌, ◌⊎◌, ◌<◌, ℕ, Bool, false, List}
use Rattle.blocks.specs.Committees.{IsCommittee, n_of, keys_of, key_id_at, weight_at}
use Rattle.blocks.specs.Weights.{quorum_of, weight_of}
use Rattle.handover_keys.specs.BoundIds.{AreApart, IsPlace, bound_id}
use Rattle.handover_keys.specs.Endorsements.{IsGoodEndorsement, endorsement_text}
use Rattle.handover_keys.specs.NextKeys.{next_keys_text}
use Rattle.blocks.specs.Genesis.{chain_id_of}
use Rattle.handover_renewals.specs.Renewals.{Renewal}
use Rattle.handover_renewals.specs.Renewing.{Renews}
use Rattle.handover_renewals.specs.Slots.{is_kept, slot_keys, slot_statement}

-- a key and a signature by which a replica endorsed just the keys of its slot
pub record IsSignedFor (old new : List ℕ) (s : ℕ) : Type 0 where
  pub key : ℕ
  pub signature : List ℕ
  pub good : IsGoodEndorsement old (endorsement_text (next_keys_text (slot_statement (chain_id_of old) new s)) key signature)

-- each slot has its old keys, or such as its replica endorsed
abbrev pub ASlotIsKeptOrSignedFor : Type 0
ASlotIsKeptOrSignedFor =
    (old new : List ℕ) (r : Renewal) → IsCommittee old → IsCommittee new → Renews old new r
    → (s : ℕ) → s < n_of new → (slot_keys new s ≡ slot_keys old s) ⊎ IsSignedFor old new s

-- the id of a key of a new slot is bound to its place behind the old committee, and to no other, if no two texts of places at hand have
-- digests with the same first 16 bytes
abbrev pub NewKeysHaveOnePlace : Type 0
NewKeysHaveOnePlace =
    (old new : List ℕ) (r : Renewal) → IsCommittee old → Renews old new r
    → (s k : ℕ) → s < n_of old → is_kept old new s ≡ false → k < keys_of old s
    → (chain : List ℕ) (replica key : ℕ) → IsPlace chain replica key → AreApart (chain_id_of old) s k chain replica key
    → key_id_at new s k ≡ bound_id chain replica key → (chain_id_of old ≡ chain) × (s ≡ replica) × (k ≡ key)

-- each set of replicas weighs the same
abbrev pub EachSetWeighsTheSame : Type 0
EachSetWeighsTheSame =
    (old new : List ℕ) (r : Renewal) → Renews old new r
    → (passes : ℕ → Bool) → weight_of (weight_at new) passes (n_of new) ≡ weight_of (weight_at old) passes (n_of old)

-- .. and so does a quorum
abbrev pub AQuorumIsTheSame : Type 0
AQuorumIsTheSame = (old new : List ℕ) (r : Renewal) → Renews old new r → quorum_of new ≡ quorum_of old
