-- The keys of a replica whose words say what it signed for, through committees of which each renews the one before it.
use Rattle.std.specs.Prelude.{◌≡◌, ◌⊎◌, ◌<◌, ℕ, false, List, [], ◌∷◌, Some}
use Rattle.blocks.specs.Committees.{IsCommittee, n_of}
use Rattle.blocks.specs.Genesis.{chain_id_of}
use Rattle.certificates.specs.declared.certificate.Endorsement.{Endorsement}
use Rattle.handover_keys.specs.Endorsements.{endorsement_text, statement_in}
use Rattle.handover_keys.specs.NextKeys.{chain_in, next_keys_text}
use Rattle.handover_renewals.specs.Renewals.{Renewal}
use Rattle.handover_renewals.specs.Renewing.{IsGoodFor, Renews, signature_of}
use Rattle.handover_renewals.specs.Slots.{is_kept, slot_keys}
use Rattle.handover_folder.specs.Histories.{Event, IsHistory, IsTold, Moment}
use Rattle.handover_folder.specs.Words.{Endorsed}
use Rattle.handover_folder.specs.Renewed.{AreRenewed, Next, last_of}

-- ---- what a replica's words tell

-- of each chain, by its id, all that happened to the replica's journal of words, over all stays, crashes and recoveries
abbrev pub Words : Type 0
Words = List ℕ → List Event

-- it happened to one journal
pub record HasHappened (events : List Event) : Type 0 where
  pub first : Moment
  pub history : IsHistory first events

-- each journal's events happened to it, and it tells endorsements of its own chain alone
pub record AreWords (words : Words) : Type 0 where
  pub happened : (chain : List ℕ) → HasHappened (words chain)
  pub named : (chain bytes : List ℕ) → IsTold (words chain) (Endorsed bytes) → chain_in (statement_in bytes) ≡ chain

-- all endorsements of one chain that a replica told, in whichever stays, are one
abbrev pub OneEndorsementAChain : Type 0
OneEndorsementAChain =
    (words : Words) (chain other_chain bytes other : List ℕ) → AreWords words
    → IsTold (words chain) (Endorsed bytes) → IsTold (words other_chain) (Endorsed other)
    → chain_in (statement_in bytes) ≡ chain_in (statement_in other) → bytes ≡ other

-- ---- its own keys

-- the text by which a replica states, behind the committee of this chain, that these keys are its next ones
abbrev pub stating : List ℕ → ℕ → List (List ℕ) → List ℕ
stating chain replica keys = next_keys_text (record { chain = chain; replica = replica; keys = keys })

-- it told, in one of its chains, that these keys are its next ones
pub record IsToldNext (words : Words) (replica : ℕ) (keys : List (List ℕ)) : Type 0 where
  pub chain : List ℕ
  pub key : ℕ
  pub signature : List ℕ
  pub told : IsTold (words chain) (Endorsed (endorsement_text (stating chain replica keys) key signature))

-- keys are its own: those that it began with, or such as it told
abbrev pub AreOwn : Words → ℕ → (begun keys : List (List ℕ)) → Type 0
AreOwn words replica begun keys = (keys ≡ begun) ⊎ IsToldNext words replica keys

-- the signature that a renewal has of it, if that is good for its slot, is one that it told in the chain of the old committee
abbrev pub IsToldSignature : Words → ℕ → (old new : List ℕ) → Renewal → Type 0
IsToldSignature words replica old new r =
    (e : Endorsement) → signature_of r replica ≡ Some e → IsGoodFor old new replica e
    → IsTold (words (chain_id_of old)) (Endorsed (endorsement_text (stating (chain_id_of old) replica (slot_keys new replica)) e.key e.signature))

-- nobody else signed with its own keys in this renewal of a committee
abbrev pub SignedAlone : Words → ℕ → List (List ℕ) → (old new : List ℕ) → Renewal → Type 0
SignedAlone words replica begun old new r = AreOwn words replica begun (slot_keys old replica) → IsToldSignature words replica old new r

-- .. nor in any of these
abbrev pub SignedAloneThrough : Words → ℕ → List (List ℕ) → List ℕ → List Next → Type 0
SignedAloneThrough words replica begun first [] = Unit {0}
SignedAloneThrough words replica begun first (next ∷ later) =
    SignedAlone words replica begun first next.file next.renewal × SignedAloneThrough words replica begun next.file later

-- ---- the laws

-- its slot has its own keys in the last committee, and so in each
abbrev pub ItsSlotIsItsOwn : Type 0
ItsSlotIsItsOwn =
    (first : List ℕ) (later : List Next) (words : Words) (replica : ℕ)
    → AreRenewed first later → replica < n_of first → SignedAloneThrough words replica (slot_keys first replica) first later
    → AreOwn words replica (slot_keys first replica) (slot_keys (last_of first later) replica)

-- two committees that renew one in which it has its own keys have the same keys in its slot, if that is new in both
abbrev pub ItsNextKeysAreTheSame : Type 0
ItsNextKeysAreTheSame =
    (old new other : List ℕ) (r q : Renewal) (words : Words) (replica : ℕ) (begun : List (List ℕ))
    → AreWords words → AreOwn words replica begun (slot_keys old replica)
    → SignedAlone words replica begun old new r → SignedAlone words replica begun old other q
    → IsCommittee new → IsCommittee other → Renews old new r → Renews old other q → replica < n_of old
    → is_kept old new replica ≡ false → is_kept old other replica ≡ false
    → slot_keys new replica ≡ slot_keys other replica
