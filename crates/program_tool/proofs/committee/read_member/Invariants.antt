use Rattle.std.proofs.Common.{◌≡◌, length}
use Rattle.program_tool.proofs.committee.read_member.Given as goal

abbrev pub invariant-loop-path : goal.invariant-loop-path
invariant-loop-path g l = length l.keys.items ≡ l.path-index
