use Rattle.std.proofs.Common.{◌≡◌, ◌++◌}
use Rattle.handover_steps.specs.LineageLines.{steps_upto}
use Rattle.handover_steps.proofs.lines.put_steps.Given as goal

abbrev pub invariant-loop-k : goal.invariant-loop-k
invariant-loop-k l = l.text.items ≡ l.fn.text.items ++ steps_upto l.steps l.k
