use Rattle.std.proofs.Common.{take}
use Rattle.handover_steps.specs.JudgedSteps.{AreStepsTo}
use Rattle.handover_steps.proofs.lineage.judge_lineage.Given as goal

abbrev pub invariant-loop-one : goal.invariant-loop-one
invariant-loop-one l = AreStepsTo l.root (take l.one-index l.files) l.steps.items l.old
