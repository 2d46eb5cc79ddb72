use Rattle.std.proofs.Common.{◌≡◌, take}
use Rattle.certificates.specs.Assembling.{votes_weight}
use Rattle.certificates.proofs.assembling.weigh_enough.Given as goal

abbrev pub invariant-loop-vote : goal.invariant-loop-vote
invariant-loop-vote l = l.weight ≡ votes_weight l.committee (take l.vote-index l.votes)
