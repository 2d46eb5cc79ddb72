use Rattle.std.proofs.Common.{◌≡◌, ◌*◌, ◌^◌, ◌≤◌, take}
use Rattle.std.specs.List.{sum_by}
use Rattle.blocks.specs.Committees.{weight_at}
use Rattle.handover_light.proofs.judging.voters_weight.Given as goal

abbrev pub invariant-loop-k : goal.invariant-loop-k
invariant-loop-k l = (l.weight ≡ sum_by (λ e. weight_at l.committee e.replica) (take l.k l.certificate.entries)) × (l.weight ≤ 2 ^ 32 * l.k)
