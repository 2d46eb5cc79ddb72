use Rattle.std.proofs.Common.{ℕ, ◌<◌}
use Rattle.handover_renewals.specs.Renewing.{HasIds}
use Rattle.handover_renewals.proofs.judging.unbound.Given as goal

abbrev pub invariant-loop-s : goal.invariant-loop-s
invariant-loop-s l = (t : ℕ) → t < l.s → HasIds l.old l.new t
