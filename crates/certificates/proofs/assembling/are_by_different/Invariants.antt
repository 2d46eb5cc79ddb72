use Rattle.std.proofs.Common.{take}
use Rattle.certificates.specs.Assembling.{AreByDifferent}
use Rattle.certificates.proofs.assembling.are_by_different.Given as goal

abbrev pub invariant-loop-k : goal.invariant-loop-k
invariant-loop-k l = AreByDifferent (take l.k l.votes)
