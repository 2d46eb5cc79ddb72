use Rattle.handover_light.specs.LightProofRefusals.{HasKnownReplicas}
use Rattle.handover_light.specs.Proving.{AllBelow}
use Rattle.handover_light.proofs.judging.with_unknown.Given as goal

abbrev pub invariant-loop-c : goal.invariant-loop-c
invariant-loop-c l = AllBelow l.c (HasKnownReplicas l.committee l.proof)
