use Rattle.handover_steps.proofs.TakenLaws.{AreFree}
use Rattle.handover_steps.proofs.taken.least_of.Given as goal

abbrev pub invariant-loop-slot : goal.invariant-loop-slot
invariant-loop-slot l = AreFree l.before l.old l.new l.slot
