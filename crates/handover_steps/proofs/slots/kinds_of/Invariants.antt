use Rattle.handover_steps.specs.Steps.{AreKinds}
use Rattle.handover_steps.proofs.slots.kinds_of.Given as goal

abbrev pub invariant-loop-slot : goal.invariant-loop-slot
invariant-loop-slot l = AreKinds l.old l.new l.renewal l.slot l.kinds.items
