use Rattle.std.proofs.Common.{◌≡◌, ◌++◌}
use Rattle.program_show.specs.EndorsementLines.{next_key_lines}
use Rattle.program_show.proofs.endorsement.put_next_keys.Given as goal

abbrev pub invariant-loop-k : goal.invariant-loop-k
invariant-loop-k l = l.text.items ≡ l.fn.text.items ++ next_key_lines l.statement l.k
