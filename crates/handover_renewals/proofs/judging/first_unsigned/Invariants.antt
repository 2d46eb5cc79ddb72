use Rattle.std.proofs.Common.{ℕ, ◌<◌}
use Rattle.handover_renewals.specs.Renewing.{IsSigned}
use Rattle.handover_renewals.proofs.judging.first_unsigned.Given as goal

abbrev pub invariant-loop-s : goal.invariant-loop-s
invariant-loop-s l = (t : ℕ) → t < l.s → IsSigned l.old l.new l.renewal t
