use Rattle.handover_light.specs.LightProofRefusals.{HasWeight}
use Rattle.handover_light.specs.Proving.{AllBelow}
use Rattle.handover_light.proofs.judging.too_light.Given as goal

abbrev pub invariant-loop-c : goal.invariant-loop-c
invariant-loop-c l = AllBelow l.c (HasWeight l.committee l.proof)
