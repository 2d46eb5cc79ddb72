use Rattle.std.proofs.Common.{ℕ, ◌<◌}
use Rattle.handover_renewals.specs.Renewing.{HasWeight}
use Rattle.handover_renewals.proofs.judging.other_weight.Given as goal

abbrev pub invariant-loop-s : goal.invariant-loop-s
invariant-loop-s l = (t : ℕ) → t < l.s → HasWeight l.old l.new t
