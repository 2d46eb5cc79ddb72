-- Whom evidence accuses, and by which two votes.
use Rattle.std.specs.Prelude.{◌≡◌, ◌⊎◌, ◌↔◌, ◌<◌, ℕ, List}
use Rattle.std.specs.List.{AllPairs, Contains}
use Rattle.certificates.specs.Votes.{ballot_of}
use Rattle.blocks.specs.Rules.{IsDoubleVote}
use Rattle.certificates.specs.declared.vote.SignedVote.{SignedVote}
use Rattle.audit_evidence.specs.Evidence.{Evidence}
use Rattle.certificates.specs.VoteOrder.{IsLowerVote}
use Rattle.verdict_format.specs.Proofs.{IsLockViolationBy}
use Rattle.verdict_format.specs.declared.parts.Shown.{Shown}
use Rattle.verdict_format.specs.declared.parts.Shown.TheVariants.{DoubleVote, LockViolation}
use Rattle.verdict_format.specs.Verdicts.{VotedHeaders}

-- ---- two votes that break a rule

-- the headers behind two votes are in evidence
pub record AreKnown (e : Evidence) (h : VotedHeaders) : Type 0 where
  pub earlier : Contains e.headers h.earlier
  pub parent : Contains e.headers h.parent
  pub later : Contains e.headers h.later

-- this shows that the votes v and w break a rule: of a double vote they do themselves, of a lock violation the headers
-- behind them do, where these are in evidence
abbrev pub Shows : Evidence → SignedVote → SignedVote → Shown → Type 0
Shows e v w DoubleVote = IsDoubleVote (ballot_of v) (ballot_of w)
Shows e v w (LockViolation h) = AreKnown e h × IsLockViolationBy (ballot_of v) (ballot_of w) h

-- the votes v and w break a rule, by what is in evidence
abbrev pub BreakARule : Evidence → SignedVote → SignedVote → Type 0
BreakARule e v w = (s : Shown) × Shows e v w s

-- ---- culprits

-- two votes of the replica in evidence break a rule
pub record IsOffence (e : Evidence) (r : ℕ) (v w : SignedVote) : Type 0 where
  pub earlier : Contains e.votes v
  pub later : Contains e.votes w
  pub earlier_by : v.replica ≡ r
  pub later_by : w.replica ≡ r
  pub broken : BreakARule e v w

abbrev pub IsCulprit : Evidence → ℕ → Type 0
IsCulprit e r = (v : SignedVote) × (w : SignedVote) × IsOffence e r v w

-- all culprits, rising
pub record AreCulprits (e : Evidence) (culprits : List ℕ) : Type 0 where
  pub rising : AllPairs (λ q r. q < r) culprits
  pub exact : (r : ℕ) → Contains culprits r ↔ IsCulprit e r

-- ---- the pair that is named

-- v is not above w in the order of votes
abbrev pub IsVoteAtMost : SignedVote → SignedVote → Type 0
IsVoteAtMost v w = (v ≡ w) ⊎ IsLowerVote v w

-- of the replica's offences the one with the least later vote, and of those the one with the least earlier vote. In a
-- double vote either vote may stand as the later one
pub record IsNamedPair (e : Evidence) (r : ℕ) (v w : SignedVote) : Type 0 where
  pub offence : IsOffence e r v w
  pub least_later : (x y : SignedVote) → IsOffence e r x y → IsVoteAtMost w y
  pub least_earlier : (x : SignedVote) → IsOffence e r x w → IsVoteAtMost v x
