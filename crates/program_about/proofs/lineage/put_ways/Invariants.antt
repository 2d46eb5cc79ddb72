use Rattle.std.proofs.Common.{◌≡◌, ◌++◌}
use Rattle.program_about.specs.LineageSheets.{ways_upto}
use Rattle.program_about.proofs.lineage.put_ways.Given as goal

abbrev pub invariant-loop-k : goal.invariant-loop-k
invariant-loop-k l = l.text.items ≡ l.fn.text.items ++ ways_upto l.steps l.r l.k
