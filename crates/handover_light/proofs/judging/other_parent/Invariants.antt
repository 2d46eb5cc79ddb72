use Rattle.handover_light.specs.Proving.{AllBelow, IsOnPrevious}
use Rattle.handover_light.proofs.judging.other_parent.Given as goal

abbrev pub invariant-loop-k : goal.invariant-loop-k
invariant-loop-k l = AllBelow l.k (IsOnPrevious l.proof)
