use Rattle.handover_blocks.specs.OldKeys.{AreNewKeys}
use Rattle.handover_steps.proofs.taken.first_of_slot.Given as goal

abbrev pub invariant-loop-k : goal.invariant-loop-k
invariant-loop-k l = AreNewKeys l.before l.new l.slot l.k
