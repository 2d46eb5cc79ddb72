use Rattle.std.proofs.Common.{◌≡◌, ◌++◌}
use Rattle.program_show.specs.Lines.{left_text}
use Rattle.program_show.proofs.log.put_left.Given as goal

abbrev pub invariant-loop-k : goal.invariant-loop-k
invariant-loop-k l = l.text.items ≡ l.fn.text.items ++ left_text l.boundary l.k
