use Rattle.program_follow.specs.RenewalLines.{AreSlotLines}
use Rattle.program_follow.proofs.renewing.slots_text.Given as goal

abbrev pub invariant-loop-s : goal.invariant-loop-s
invariant-loop-s l = AreSlotLines l.old l.new l.renewal l.s l.text.items
