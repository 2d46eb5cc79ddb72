-- Good votes of this replica that its log does not have, wherever they stand.
use Rattle.std.specs.Prelude.{◌≡◌, ◌<◌, ℕ, List, length, take}
use Rattle.std.specs.List.{All}
use Rattle.certificates.specs.Certificates.{Certificate, nth_endorsement, vote_of}
use Rattle.certificates.specs.Votes.{IsGoodVote}
use Rattle.certificates.specs.declared.vote.SignedVote.{SignedVote}
use Rattle.replica_backups.specs.OwnVotes.{IsForeign}

-- the replica signed it, and these, its own votes as its log has them, are others
pub record IsForgottenVote (committee : List ℕ) (replica : ℕ) (own : List SignedVote) (v : SignedVote) : Type 0 where
  pub foreign : IsForeign replica own v
  pub good : IsGoodVote committee v

-- the first of the certificate's votes that is one
pub record IsFirstForgotten (committee : List ℕ) (replica : ℕ) (own : List SignedVote) (c : Certificate) (v : SignedVote) : Type 0 where
  pub place : ℕ
  pub there : place < length c.entries
  pub is : vote_of c (nth_endorsement c place) ≡ v
  pub forgotten : IsForgottenVote committee replica own v
  pub before : All (λ d. IsForgottenVote committee replica own (vote_of c d) → ⊥) (take place c.entries)
