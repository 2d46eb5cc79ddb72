use Rattle.handover_light.specs.LightProofRefusals.{HasGoodVotes}
use Rattle.handover_light.specs.Proving.{AllBelow}
use Rattle.handover_light.proofs.judging.first_bad_vote.Given as goal

abbrev pub invariant-loop-c : goal.invariant-loop-c
invariant-loop-c l = AllBelow l.c (HasGoodVotes l.committee l.proof)
