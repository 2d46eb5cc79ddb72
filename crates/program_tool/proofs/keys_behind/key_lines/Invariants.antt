use Rattle.std.proofs.Common.{◌≡◌, take}
use Rattle.program_tool.specs.NextKeys.{key_lines}
use Rattle.program_tool.proofs.keys_behind.key_lines.Given as goal

-- the lines of the keys so far
abbrev pub invariant-loop-key : goal.invariant-loop-key
invariant-loop-key l = l.lines.items ≡ key_lines (take l.key-index l.keys)
