use Rattle.std.proofs.Common.{◌≡◌, ◌++◌}
use Rattle.program_show.specs.Lines.{replica_lines}
use Rattle.program_show.proofs.committee.put_replicas.Given as goal

abbrev pub invariant-loop-r : goal.invariant-loop-r
invariant-loop-r l = l.text.items ≡ l.fn.text.items ++ replica_lines l.committee l.r
