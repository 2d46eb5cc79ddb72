use Rattle.std.proofs.Common.{◌≡◌, take}
use Rattle.audit_evidence.specs.Gathering.{those}
use Rattle.audit_evidence.proofs.evidence.good_votes.Given as goal

abbrev pub invariant-loop-k : goal.invariant-loop-k
invariant-loop-k l = l.good.items ≡ those (take l.k l.votes) (take l.k l.answers)
