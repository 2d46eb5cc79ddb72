use Rattle.std.proofs.Common.{◌≡◌, ◌++◌}
use Rattle.program_show.specs.Lines.{key_ids}
use Rattle.program_show.proofs.committee.put_key_ids.Given as goal

abbrev pub invariant-loop-k : goal.invariant-loop-k
invariant-loop-k l = l.text.items ≡ l.fn.text.items ++ key_ids l.committee l.r l.k
