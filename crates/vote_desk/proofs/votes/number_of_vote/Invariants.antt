use Rattle.std.proofs.Common.{ℕ, ◌<◌}
use Rattle.vote_desk.specs.Votes.{IsVoteAt}
use Rattle.vote_desk.proofs.votes.number_of_vote.Given as goal

abbrev pub invariant-loop-k : goal.invariant-loop-k
invariant-loop-k l = (j : ℕ) → j < l.k → IsVoteAt l.view l.steps j → ⊥
