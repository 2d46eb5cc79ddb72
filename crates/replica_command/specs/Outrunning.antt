-- Votes of a log under one-time keys that an index store did not reserve.
use Rattle.std.specs.Prelude.{◌≡◌, ℕ, ◌+◌, ◌*◌, ◌<◌, ◌≤◌, List, Some, IsSomeAnd, slice_get}
use Rattle.base_wire.specs.Pieces.{number_at}
use Rattle.certificates.specs.Votes.{IsGoodVote}
use Rattle.certificates.specs.declared.vote.SignedVote.{SignedVote}
use Rattle.key_index_store.specs.declared.store.TheConstants.{INDICES}
use Rattle.log_format.specs.EntryText.{Entry, own_vote_of}

-- the index of a vote: that of its one-time key, behind those of the keys before; a signature begins with it
abbrev pub index_of : SignedVote → ℕ
index_of v = INDICES * v.key + number_at 4 v.signature 0

-- the entry has a vote of the replica that verifies, at an index that is not below the boundary
abbrev pub Outruns : List ℕ → ℕ → ℕ → Entry → Type 0
Outruns committee replica boundary e = IsSomeAnd (own_vote_of e replica) (λ v. (boundary ≤ index_of v) × IsGoodVote committee v)

-- one of these entries does
abbrev pub SomeOutruns : List ℕ → ℕ → ℕ → List Entry → Type 0
SomeOutruns committee replica boundary entries = (k : ℕ) × IsSomeAnd (slice_get entries k) (Outruns committee replica boundary)

-- none of the first so many of these entries does
abbrev pub NoneOutruns : List ℕ → ℕ → ℕ → List Entry → ℕ → Type 0
NoneOutruns committee replica boundary entries count =
    (k : ℕ) (e : Entry) → k < count → slice_get entries k ≡ Some e → Outruns committee replica boundary e → ⊥
