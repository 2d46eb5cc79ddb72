-- Votes and replicas of which nothing is new, and what an audit need not search again.
use Rattle.std.specs.Prelude.{◌≡◌, ◌↔◌, ◌⊎◌, ℕ, Bool, true, false}
use Rattle.std.specs.List.{Contains}
use Rattle.blocks.specs.Headers.{Header, NamesParent, header_id}
use Rattle.certificates.specs.declared.vote.SignedVote.{SignedVote}
use Rattle.audit_evidence.specs.Evidence.{Evidence}
use Rattle.audit_commits.specs.Culprits.{IsNamedPair, IsOffence, IsVoteAtMost}
use Rattle.watch_collector.specs.Growth.{IsWithin}

-- what f has of the vote, of its block and of that block's parent, e has too
pub record IsSettled (e f : Evidence) (v : SignedVote) : Type 0 where
  pub vote : Contains e.votes v
  pub block : (b : Header) → Contains f.headers b → header_id b ≡ v.id → Contains e.headers b
  pub parent : (b p : Header) → Contains f.headers b → header_id b ≡ v.id → Contains f.headers p → NamesParent b p → Contains e.headers p

-- each vote of the replica is settled
abbrev pub IsUntouched : (e f : Evidence) → ℕ → Type 0
IsUntouched e f r = (v : SignedVote) → Contains f.votes v → v.replica ≡ r → IsSettled e f v

-- its offences are those that it had
abbrev pub UntouchedReplicasKeepTheirOffences : Type 0
UntouchedReplicasKeepTheirOffences =
    (e f : Evidence) (r : ℕ) (v w : SignedVote) → IsWithin e f → IsUntouched e f r → IsOffence f r v w ↔ IsOffence e r v w

-- .. and so is the pair that is named
abbrev pub UntouchedReplicasKeepTheirPair : Type 0
UntouchedReplicasKeepTheirPair =
    (e f : Evidence) (r : ℕ) (v w : SignedVote) → IsWithin e f → IsUntouched e f r → IsNamedPair f r v w ↔ IsNamedPair e r v w

-- a test of votes that is passed by each of the replica's votes that is not settled
abbrev pub IsTestOfFresh : (e f : Evidence) → ℕ → (SignedVote → Bool) → Type 0
IsTestOfFresh e f r fresh = (v : SignedVote) → Contains f.votes v → v.replica ≡ r → fresh v ≡ false → IsSettled e f v

-- the offence is no greater than any that e had, nor than any with a vote that passes the test
pub record IsLeastOfOldAndFresh (e f : Evidence) (r : ℕ) (fresh : SignedVote → Bool) (x y : SignedVote) : Type 0 where
  pub offence : IsOffence f r x y
  pub old_later : (v w : SignedVote) → IsOffence e r v w → IsVoteAtMost y w
  pub old_earlier : (v : SignedVote) → IsOffence e r v y → IsVoteAtMost x v
  pub fresh_later : (v w : SignedVote) → IsOffence f r v w → (fresh v ≡ true) ⊎ (fresh w ≡ true) → IsVoteAtMost y w
  pub fresh_earlier : (v : SignedVote) → IsOffence f r v y → (fresh v ≡ true) ⊎ (fresh y ≡ true) → IsVoteAtMost x v

-- it is the pair that is named: offences of two settled votes are old
abbrev pub TheLeastOfOldAndFreshIsNamed : Type 0
TheLeastOfOldAndFreshIsNamed =
    (e f : Evidence) (r : ℕ) (fresh : SignedVote → Bool) (x y : SignedVote)
    → IsWithin e f → IsTestOfFresh e f r fresh → IsLeastOfOldAndFresh e f r fresh x y → IsNamedPair f r x y
