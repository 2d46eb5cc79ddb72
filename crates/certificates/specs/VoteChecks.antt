-- Why a vote is refused: the tests of `check_vote` in their order.
use Rattle.std.specs.Prelude.{◌<◌, ℕ, List, [], ◌∷◌}
use Rattle.base_wire.specs.Refusals.{IsFirst}
use Rattle.blocks.specs.Committees.{n_of, keys_of}
use Rattle.certificates.specs.declared.vote.SignedVote.{SignedVote}
use Rattle.certificates.specs.declared.vote.VoteRefusal.{VoteRefusal}
use Rattle.certificates.specs.declared.vote.VoteRefusal.TheVariants.{UnknownReplica, UnknownKey, Signature}
use Rattle.certificates.specs.Votes.{IsSignedBy}

-- what each refusal tests
abbrev pub PassesVote : List ℕ → SignedVote → VoteRefusal → Type 0
PassesVote committee vote UnknownReplica = vote.replica < n_of committee
PassesVote committee vote UnknownKey = vote.key < keys_of committee vote.replica
PassesVote committee vote Signature = IsSignedBy committee vote.replica vote.key vote.view vote.id vote.signature

-- the number that docs/REFUSALS.md gives a refusal
abbrev pub vote_refusal_number : VoteRefusal → ℕ
vote_refusal_number UnknownReplica = 1
vote_refusal_number UnknownKey = 3
vote_refusal_number Signature = 2

abbrev pub vote_order : List VoteRefusal
vote_order = UnknownReplica ∷ UnknownKey ∷ Signature ∷ []

-- the vote is refused by the first test that it does not pass
abbrev pub IsVoteRefusal : List ℕ → SignedVote → VoteRefusal → Type 0
IsVoteRefusal committee vote refusal = IsFirst vote_refusal_number (PassesVote committee vote) vote_order refusal
