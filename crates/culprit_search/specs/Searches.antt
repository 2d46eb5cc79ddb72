-- Searching evidence for the pairs of votes that break a rule. docs/DEFINITIONS.md, "Culprits".
use Rattle.std.specs.Prelude.{◌≡◌, ◌<◌, ◌≤◌, ◌↔◌, ℕ, List, Option, Some, None, get_or, length, take}
use Rattle.std.specs.List.{All, AllPairs, Contains}
use Rattle.blocks.specs.Headers.{Header, header_id}
use Rattle.blocks.specs.Rules.{IsDoubleVote}
use Rattle.certificates.specs.Votes.{ballot_of}
use Rattle.certificates.specs.declared.vote.SignedVote.{SignedVote}
use Rattle.audit_evidence.specs.Evidence.{Evidence}
use Rattle.certificates.specs.VoteOrder.{IsLowerVote}
use Rattle.verdict_format.specs.declared.parts.Shown.TheVariants.{LockViolation}
use Rattle.verdict_format.specs.Verdicts.{VotedHeaders}
use Rattle.audit_commits.specs.Culprits.{BreakARule, IsVoteAtMost, Shows}
use Rattle.culprit_search.specs.declared.locks.Locks.{Locks}
use Rattle.culprit_search.specs.declared.pairs.Offence.{Offence}

-- ---- headers

-- the header has this id and this view
pub record IsHeaderAt (id : List ℕ) (view : ℕ) (h : Header) : Type 0 where
  pub id_is : header_id h ≡ id
  pub view_is : h.view ≡ view

-- it is one of these
abbrev pub IsFoundAt : List Header → List ℕ → ℕ → Header → Type 0
IsFoundAt headers id view h = Contains headers h × IsHeaderAt id view h

-- none of these is such
abbrev pub NoneIsAt : List Header → List ℕ → ℕ → Type 0
NoneIsAt headers id view = (h : Header) → IsFoundAt headers id view h → ⊥

-- the header of the vote's block, where it is one of these
abbrev pub IsBlockOf : List Header → SignedVote → Option Header → Type 0
IsBlockOf headers w None = NoneIsAt headers w.id w.view
IsBlockOf headers w (Some h) = IsFoundAt headers w.id w.view h

-- ---- lock violations

-- the headers show that the votes are a lock violation
abbrev pub ShowsViolation : Evidence → SignedVote → SignedVote → VotedHeaders → Type 0
ShowsViolation e v w h = Shows e v w (LockViolation h)

-- none do
abbrev pub IsNoViolation : Evidence → SignedVote → SignedVote → Type 0
IsNoViolation e v w = (h : VotedHeaders) → ShowsViolation e v w h → ⊥

-- ---- pairs of votes of one replica

-- these are the replica's votes in evidence, and they rise
pub record AreOwnVotes (e : Evidence) (r : ℕ) (own : List SignedVote) : Type 0 where
  pub rising : AllPairs IsLowerVote own
  pub exact : (v : SignedVote) → Contains own v ↔ (Contains e.votes v × (v.replica ≡ r))

-- none of these votes breaks a rule with w
abbrev pub NoneBreaksWith : Evidence → List SignedVote → SignedVote → Type 0
NoneBreaksWith e own w = (v : SignedVote) → Contains own v → BreakARule e v w → ⊥

-- no two of these votes break a rule
abbrev pub NoTwoBreak : Evidence → List SignedVote → Type 0
NoTwoBreak e own = (w : SignedVote) → Contains own w → NoneBreaksWith e own w

-- of these votes its earlier one is the least that breaks a rule with w, as is shown
pub record IsLeastAgainst (e : Evidence) (own : List SignedVote) (w : SignedVote) (o : Offence) : Type 0 where
  pub later_is : o.later ≡ w
  pub among : Contains own o.earlier
  pub shown : Shows e o.earlier w o.shown
  pub least : (x : SignedVote) → Contains own x → BreakARule e x w → IsVoteAtMost o.earlier x

-- of the pairs of these votes that break a rule it is the one with the least later vote, and of those the one with
-- the least earlier vote
pub record IsLeastPair (e : Evidence) (own : List SignedVote) (o : Offence) : Type 0 where
  pub later_among : Contains own o.later
  pub against : IsLeastAgainst e own o.later o
  pub least_later : (x y : SignedVote) → Contains own x → Contains own y → BreakARule e x y → IsVoteAtMost o.later y

-- ---- a screen

-- these votes are by one replica
abbrev pub AreByOne : List SignedVote → Type 0
AreByOne own = (v w : SignedVote) → Contains own v → Contains own w → v.replica ≡ w.replica

-- the votes of this view stand from one place on and before another
pub record StandBetween (own : List SignedVote) (view start end : ℕ) : Type 0 where
  pub within : end ≤ length own
  pub exact : (i : ℕ) (d : SignedVote) → i < length own → ((start ≤ i) × (i < end)) ↔ ((get_or own i d).view ≡ view)

-- the votes before this place are below the view, and those from it on are not
pub record BeginsAt (own : List SignedVote) (view place : ℕ) : Type 0 where
  pub before : (i : ℕ) (d : SignedVote) → i < place → (get_or own i d).view < view
  pub after : (i : ℕ) (d : SignedVote) → place ≤ i → i < length own → view ≤ (get_or own i d).view

-- the votes before this place are up to the view, and those from it on are above it
pub record EndsAt (own : List SignedVote) (view place : ℕ) : Type 0 where
  pub within : place ≤ length own
  pub before : (i : ℕ) (d : SignedVote) → i < place → (get_or own i d).view ≤ view
  pub after : (i : ℕ) (d : SignedVote) → place ≤ i → i < length own → view < (get_or own i d).view

-- none of these votes is a double vote with w
abbrev pub NoneIsDouble : List SignedVote → SignedVote → Type 0
NoneIsDouble own w = (v : SignedVote) → Contains own v → IsDoubleVote (ballot_of v) (ballot_of w) → ⊥

-- the vote shows a lock on this view: the parent of the vote's block stands on a block of it
pub record IsLockView (e : Evidence) (v : SignedVote) (view : ℕ) : Type 0 where
  pub block : Header
  pub block_found : IsFoundAt e.headers v.id v.view block
  pub parent : Header
  pub parent_found : IsFoundAt e.headers block.parent block.parent_view parent
  pub view_is : parent.parent_view ≡ view

-- the vote shows no lock
abbrev pub ShowsNoLock : Evidence → SignedVote → Type 0
ShowsNoLock e v = (view : ℕ) → IsLockView e v view → ⊥

-- .. none above this view
abbrev pub HasNoLockAbove : Evidence → ℕ → SignedVote → Type 0
HasNoLockAbove e n v = (view : ℕ) → IsLockView e v view → view ≤ n

-- the votes that were looked at show no lock above the greatest
abbrev pub FirstHaveNoLockAbove : Evidence → List SignedVote → Locks → Type 0
FirstHaveNoLockAbove e own locks = All (HasNoLockAbove e locks.greatest) (take locks.joined own)

-- those of these votes that are below a view show no lock above n
abbrev pub LowerHaveNoLockAbove : Evidence → List SignedVote → ℕ → ℕ → Type 0
LowerHaveNoLockAbove e own view n = (v : SignedVote) → Contains own v → v.view < view → HasNoLockAbove e n v

-- w's block is in evidence, and names a parent below this view
abbrev pub IsOnParentBelow : Evidence → SignedVote → ℕ → Type 0
IsOnParentBelow e w view = (h : Header) × IsFoundAt e.headers w.id w.view h × (h.parent_view < view)
