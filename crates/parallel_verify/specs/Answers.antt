-- Answers to whether votes are good. docs/DEFINITIONS.md, "Good votes".
use Rattle.std.specs.Prelude.{◌≡◌, ℕ, List, Bool, Option, Some, IsSome}
use Rattle.std.specs.Option.{option_flatten}
use Rattle.std.specs.BTreeMap.{is_at}
use Rattle.std.specs.Map.{lookup}
use Rattle.certificates.specs.VoteOrder.{vote_cmp}
use Rattle.certificates.specs.Votes.{IsAnswerOn}
use Rattle.certificates.specs.declared.vote.SignedVote.{SignedVote}

-- what is remembered of a vote, among votes that were posted; those that were checked have an answer
abbrev pub answer_in : List (SignedVote × Option Bool) → SignedVote → Option Bool
answer_in posted v = option_flatten (lookup (is_at (vote_cmp v)) posted)

-- the vote is among them
abbrev pub IsPosted : List (SignedVote × Option Bool) → SignedVote → Type 0
IsPosted posted v = IsSome (lookup (is_at (vote_cmp v)) posted)

-- each answer that is remembered is the one to its vote
abbrev pub AreAnswers : List ℕ → List (SignedVote × Option Bool) → Type 0
AreAnswers committee posted = (v : SignedVote) (is_good : Bool) → answer_in posted v ≡ Some is_good → IsAnswerOn committee v is_good
