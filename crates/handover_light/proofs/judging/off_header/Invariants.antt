use Rattle.handover_light.specs.LightProofRefusals.{IsOnItsHeader}
use Rattle.handover_light.specs.Proving.{AllBelow}
use Rattle.handover_light.proofs.judging.off_header.Given as goal

abbrev pub invariant-loop-c : goal.invariant-loop-c
invariant-loop-c l = AllBelow l.c (IsOnItsHeader l.proof)
