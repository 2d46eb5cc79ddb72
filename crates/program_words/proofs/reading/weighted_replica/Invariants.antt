use Rattle.std.proofs.Common.{◌≤◌, length}
use Rattle.program_words.proofs.reading.weighted_replica.Given as goal

abbrev pub invariant-loop-path : goal.invariant-loop-path
invariant-loop-path l = length l.paths.items ≤ 4
