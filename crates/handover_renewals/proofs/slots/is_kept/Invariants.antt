use Rattle.std.proofs.Common.{◌≡◌, true}
use Rattle.handover_renewals.specs.Slots.{same_keys}
use Rattle.handover_renewals.proofs.slots.is_kept.Given as goal

abbrev pub invariant-loop-k : goal.invariant-loop-k
invariant-loop-k l = same_keys l.old l.new l.s l.k ≡ true
