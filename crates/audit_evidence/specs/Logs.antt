-- What the logs of replicas show: headers and votes. docs/DEFINITIONS.md, "Evidence".
use Rattle.std.specs.Prelude.{◌≡◌, ◌⊎◌, ◌+◌, ℕ, List, [], ◌∷◌, Some}
use Rattle.blocks.specs.Headers.{Header}
use Rattle.certificates.specs.Certificates.{Certificate, vote_of}
use Rattle.certificates.specs.Votes.{IsGoodVote}
use Rattle.certificates.specs.declared.certificate.Endorsement.{Endorsement}
use Rattle.certificates.specs.declared.vote.SignedVote.{SignedVote}
use Rattle.log_format.specs.EntryText.{Entry, IsEntryOf, own_vote_of}
use Rattle.log_format.specs.declared.status.Status.{Status}
use Rattle.audit_evidence.specs.Sets.{InSome}

-- what came of a source: the number of a replica, the whole frames of its log, and how they end
pub record ReceivedLog : Type 0 where
  pub replica : ℕ
  pub frames : List (List ℕ)
  pub status : Status

-- ---- an entry

-- the header of the block, and that of its parent
abbrev pub HasHeader : Entry → Header → Type 0
HasHeader e h = (h ≡ e.block) ⊎ (h ≡ e.parent)

-- the vote that an entry of a certificate stands for
abbrev pub IsVoteOf : Certificate → Endorsement → SignedVote → Type 0
IsVoteOf c d v = v ≡ vote_of c d

-- the own vote, taken as this replica's, and the votes of the certificate
abbrev pub HasVote : ℕ → Entry → SignedVote → Type 0
HasVote replica e v = (own_vote_of e replica ≡ Some v) ⊎ InSome (IsVoteOf e.certificate) e.certificate.entries v

-- .. that are good
abbrev pub HasGoodVote : List ℕ → ℕ → Entry → SignedVote → Type 0
HasGoodVote committee replica e v = IsGoodVote committee v × HasVote replica e v

-- ---- a frame

-- the frame spells an entry
abbrev pub SpellsEntry : List ℕ → Type 0
SpellsEntry frame = (e : Entry) × IsEntryOf frame e

-- what an entry has that the frame spells
abbrev pub FrameHasHeader : List ℕ → Header → Type 0
FrameHasHeader frame h = (e : Entry) × IsEntryOf frame e × HasHeader e h

abbrev pub FrameHasVote : List ℕ → ℕ → List ℕ → SignedVote → Type 0
FrameHasVote committee replica frame v = (e : Entry) × IsEntryOf frame e × HasGoodVote committee replica e v

-- .. that need not be good
abbrev pub FrameNamesVote : ℕ → List ℕ → SignedVote → Type 0
FrameNamesVote replica frame v = (e : Entry) × IsEntryOf frame e × HasVote replica e v

-- so many of the frames spell entries
abbrev pub HaveEntries : List (List ℕ) → ℕ → Type 0
HaveEntries [] n = n ≡ 0
HaveEntries (f ∷ fs) n =
    (SpellsEntry f × ((m : ℕ) × (n ≡ m + 1) × HaveEntries fs m))
    ⊎ ((SpellsEntry f → ⊥) × HaveEntries fs n)

-- ---- a log

-- what one of its frames has
abbrev pub LogHasHeader : ReceivedLog → Header → Type 0
LogHasHeader l h = InSome FrameHasHeader l.frames h

abbrev pub LogHasVote : List ℕ → ReceivedLog → SignedVote → Type 0
LogHasVote committee l v = InSome (FrameHasVote committee l.replica) l.frames v

abbrev pub LogNamesVote : ReceivedLog → SignedVote → Type 0
LogNamesVote l v = InSome (FrameNamesVote l.replica) l.frames v
