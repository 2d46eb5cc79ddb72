use Rattle.std.proofs.Common.{◌≡◌, ◌++◌}
use Rattle.audit_evidence.proofs.votes.VoteSet.to_vec.Given as goal

-- those that were taken, and those that are left, are all
abbrev pub invariant-loop-vote : goal.invariant-loop-vote
invariant-loop-vote l = l.votes.items ++ l.vote-iterator ≡ l.self
