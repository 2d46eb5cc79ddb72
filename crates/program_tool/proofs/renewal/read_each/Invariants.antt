use Rattle.std.proofs.Common.{◌≡◌, length}
use Rattle.program_tool.proofs.renewal.read_each.Given as goal

abbrev pub invariant-loop-path : goal.invariant-loop-path
invariant-loop-path g l = length l.texts.items ≡ l.path-index
