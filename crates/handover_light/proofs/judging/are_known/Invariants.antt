use Rattle.std.proofs.Common.{◌<◌}
use Rattle.blocks.specs.Committees.{n_of}
use Rattle.certificates.specs.Certificates.{nth_endorsement}
use Rattle.handover_light.specs.Proving.{AllBelow}
use Rattle.handover_light.proofs.judging.are_known.Given as goal

abbrev pub invariant-loop-k : goal.invariant-loop-k
invariant-loop-k l = AllBelow l.k (λ j. (nth_endorsement l.certificate j).replica < n_of l.committee)
