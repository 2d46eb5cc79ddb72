use Rattle.std.specs.List.{All}
use Rattle.log_transfer.specs.declared.reader_state.TheConstants.{MOST_TRIES}
use Rattle.parallel_verify.specs.Collections.{MayBeTried}
use Rattle.test_sources.proofs.sources.sources.Given as goal

abbrev pub invariant-loop-log : goal.invariant-loop-log
invariant-loop-log l = All (MayBeTried (λ c. MOST_TRIES)) l.sources.items
