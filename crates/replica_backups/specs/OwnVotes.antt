-- Votes of a replica that its log does not have.
use Rattle.std.specs.Prelude.{◌≡◌, ◌<◌, ℕ, List, length, slice_index_or, take}
use Rattle.std.specs.List.{All, Contains}
use Rattle.blocks.specs.declared.ballot.Ballot.{Ballot}
use Rattle.blocks.specs.Replica.{Stored}
use Rattle.blocks.specs.Replay.{ballots_in}
use Rattle.certificates.specs.Certificates.{Certificate, vote_of}
use Rattle.certificates.specs.Votes.{IsGoodVote}
use Rattle.certificates.specs.declared.certificate.Endorsement.{Endorsement}
use Rattle.certificates.specs.declared.vote.SignedVote.{SignedVote}

-- ---- what a certificate shows a replica

-- a vote of this replica
abbrev pub HasVoteBy : ℕ → Certificate → Type 0
HasVoteBy replica c = (d : Endorsement) × Contains c.entries d × (d.replica ≡ replica)

-- what its votes are on
abbrev pub ballot_in_certificate : Certificate → Ballot
ballot_in_certificate c = record { view = c.view; id = c.id }

-- a vote of this replica that this list does not have
pub record ShowsUnknownVote (replica : ℕ) (list : List Stored) (c : Certificate) : Type 0 where
  pub own : HasVoteBy replica c
  pub unknown : Contains (ballots_in list) (ballot_in_certificate c) → ⊥

-- .. and that is above this stored vote view
pub record ShowsLaterVote (replica stored_vote_view : ℕ) (c : Certificate) : Type 0 where
  pub own : HasVoteBy replica c
  pub above : stored_vote_view < c.view

-- ---- a key that signs only through its log

-- each good vote of the replica in the certificate is on one of these ballots. That signatures can't be forged is this
-- premise, of the votes that are shown
abbrev pub SignsOnlyFor : List ℕ → ℕ → List Ballot → Certificate → Type 0
SignsOnlyFor committee replica released c =
    (d : Endorsement) → Contains c.entries d → d.replica ≡ replica → IsGoodVote committee (vote_of c d)
    → Contains released (ballot_in_certificate c)

-- ---- votes beside those that the log has with their signatures

-- a vote of this replica that is not one of these, signature and all. A replica signs each ballot once, so a vote on a ballot
-- that it knows, signed under another index, is one that it forgot and cast again
pub record IsForeign (replica : ℕ) (own : List SignedVote) (v : SignedVote) : Type 0 where
  pub of : v.replica ≡ replica
  pub unknown : Contains own v → ⊥

-- the vote is another replica's, or one of these
abbrev pub IsFamiliar : ℕ → List SignedVote → SignedVote → Type 0
IsFamiliar replica own v = v.replica ≡ replica → Contains own v

-- of these votes the first that is foreign
pub record IsFirstForeign (replica : ℕ) (own votes : List SignedVote) (v : SignedVote) : Type 0 where
  pub place : ℕ
  pub there : place < length votes
  pub is : slice_index_or votes place v ≡ v
  pub foreign : IsForeign replica own v
  pub before : All (IsFamiliar replica own) (take place votes)

-- the certificate has one
abbrev pub ShowsForeignVote : ℕ → List SignedVote → Certificate → Type 0
ShowsForeignVote replica own c = (d : Endorsement) × Contains c.entries d × IsForeign replica own (vote_of c d)

-- each good vote of the replica in the certificate is one of these
abbrev pub SignsOnly : List ℕ → ℕ → List SignedVote → Certificate → Type 0
SignsOnly committee replica own c =
    (d : Endorsement) → Contains c.entries d → d.replica ≡ replica → IsGoodVote committee (vote_of c d) → Contains own (vote_of c d)
