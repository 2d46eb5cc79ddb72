use Rattle.std.proofs.Common.{◌≡◌}
use Rattle.program_tool.specs.Renewals.{slot_lines}
use Rattle.program_tool.proofs.renewal.slot_lines.Given as goal

abbrev pub invariant-loop-s : goal.invariant-loop-s
invariant-loop-s l = l.text.items ≡ slot_lines l.old l.new l.s
