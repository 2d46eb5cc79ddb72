use Rattle.std.proofs.Common.{◌≡◌, ◌++◌}
use Rattle.base_text.specs.Printed.{spoken}
use Rattle.base_text.proofs.digits.put_spoken.Given as goal

abbrev pub invariant-loop-k : goal.invariant-loop-k
invariant-loop-k l = l.text.items ≡ l.fn.text.items ++ spoken l.id l.k
