use Rattle.std.proofs.Common.{◌≡◌, length}
use Rattle.program_tool.proofs.committee.committee.Given as goal

abbrev pub invariant-loop-key : goal.invariant-loop-key
invariant-loop-key g l = length l.texts.items ≡ l.key-index
