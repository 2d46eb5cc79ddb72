use Rattle.std.proofs.Common.{ℕ, ◌<◌}
use Rattle.handover_renewals.specs.Renewing.{HasCount}
use Rattle.handover_renewals.proofs.judging.other_count.Given as goal

abbrev pub invariant-loop-s : goal.invariant-loop-s
invariant-loop-s l = (t : ℕ) → t < l.s → HasCount l.old l.new t
