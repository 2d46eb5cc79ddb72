use Rattle.std.proofs.Common.{◌≡◌, ◌++◌}
use Rattle.parallel_verify.specs.Readings.{sources_of}
use Rattle.program_tool.proofs.keep.Keeper.observe.Given as goal

abbrev pub invariant-loop-source : goal.invariant-loop-source
invariant-loop-source g l = record {
  all : l.yielded ++ l.source-iterator.rest.items ≡ l.initial.source-iterator.rest.items;
  same : sources_of l.observed.items ≡ l.yielded;
}
