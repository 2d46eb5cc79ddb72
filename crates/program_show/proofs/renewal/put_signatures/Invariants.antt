use Rattle.std.proofs.Common.{◌≡◌, ◌++◌}
use Rattle.program_show.specs.RenewalLines.{signature_lines}
use Rattle.program_show.proofs.renewal.put_signatures.Given as goal

abbrev pub invariant-loop-k : goal.invariant-loop-k
invariant-loop-k l = l.text.items ≡ l.fn.text.items ++ signature_lines l.certificate l.k
