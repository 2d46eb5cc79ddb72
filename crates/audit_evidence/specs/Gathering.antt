-- How evidence is gathered, step by step.
use Rattle.std.specs.Prelude.{◌≡◌, ◌↔◌, ℕ, List, [], ◌∷◌, Bool, Some, if◌then◌else◌}
use Rattle.std.specs.List.{All, AllPairs, Contains}
use Rattle.blocks.specs.Headers.{Header, HasLowerId}
use Rattle.certificates.specs.Certificates.{Certificate}
use Rattle.certificates.specs.VoteOrder.{IsLowerVote}
use Rattle.certificates.specs.declared.vote.SignedVote.{SignedVote}
use Rattle.log_format.specs.EntryText.{Entry, own_vote_of}
use Rattle.audit_evidence.specs.declared.refusal.EvidenceRefusal.{EvidenceRefusal}
use Rattle.audit_evidence.specs.NamedVotes.{AreSame}
use Rattle.audit_evidence.specs.Sets.{InSome, IsEither}
use Rattle.audit_evidence.specs.Logs.{IsVoteOf, LogNamesVote, ReceivedLog}
use Rattle.audit_evidence.specs.Evidence.{IsEvidenceRefusal, IsHeaderInEvidence, IsNotBelowParent}

pub record Gathered : Type 0 where
  pub committee : List ℕ
  pub headers : List Header
  pub votes : List SignedVote

-- x is of no kind
abbrev pub IsNone : {X : Type 0} → X → Type 0
IsNone x = ⊥

-- the new list has what the old one has, and each x of this kind
abbrev pub Gains : {X : Type 0} → (old new : List X) → (X → Type 0) → Type 0
Gains {X} old new Is = (x : X) → Contains new x ↔ IsEither (Contains old) Is x

-- it has gained the headers and the votes of these kinds, and no more
pub record Grows (old new : Gathered) (IsHeader : Header → Type 0) (IsVote : SignedVote → Type 0) : Type 0 where
  pub committee : new.committee ≡ old.committee
  pub headers : Gains old.headers new.headers IsHeader
  pub votes : Gains old.votes new.votes IsVote

-- two different headers that were gathered before, or are of this kind, have one id
abbrev pub IsGatheringRefusal : Gathered → (Header → Type 0) → EvidenceRefusal → Type 0
IsGatheringRefusal g Is refusal = IsEvidenceRefusal (IsEither (Contains g.headers) Is) refusal

-- what was gathered under a committee from these logs: all that they name, and genesis
pub record IsUnion (committee : List ℕ) (ls : List ReceivedLog) (g : Gathered) : Type 0 where
  pub under : g.committee ≡ committee
  pub headers : (h : Header) → Contains g.headers h ↔ IsHeaderInEvidence committee ls h
  pub votes : (v : SignedVote) → Contains g.votes v ↔ InSome LogNamesVote ls v

-- ---- the votes of an entry, in two steps

-- the own vote
abbrev pub HasOwn : ℕ → Entry → SignedVote → Type 0
HasOwn replica e v = own_vote_of e replica ≡ Some v

-- those of its certificate
abbrev pub CertificateHas : Certificate → SignedVote → Type 0
CertificateHas c v = InSome (IsVoteOf c) c.entries v

-- ---- in order

-- headers rise by id and none is below its parent, and votes rise
pub record IsInOrder (g : Gathered) : Type 0 where
  pub headers_rise : AllPairs HasLowerId g.headers
  pub views_fall : All IsNotBelowParent g.headers
  pub votes_rise : AllPairs IsLowerVote g.votes

-- the listing has what was gathered
pub record IsListingOf (g listing : Gathered) : Type 0 where
  pub committee : listing.committee ≡ g.committee
  pub headers : listing.headers ≡ g.headers
  pub votes : AreSame listing.votes g.votes

-- ---- checked

-- of the votes those that have the answer yes
abbrev pub those : List SignedVote → List Bool → List SignedVote
those [] answers = []
those (v ∷ vs) [] = []
those (v ∷ vs) (answer ∷ answers) = if answer then v ∷ those vs answers else those vs answers
