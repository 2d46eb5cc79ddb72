use Rattle.std.specs.List.{All}
use Rattle.parallel_verify.specs.Collections.{MayBeTried}
use Rattle.lab_bench.proofs.measuring.sources_of.Given as goal

abbrev pub invariant-loop-log : goal.invariant-loop-log
invariant-loop-log g l = All (MayBeTried (λ c. 1)) l.sources.items
