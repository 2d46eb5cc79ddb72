use Rattle.std.proofs.Common.{◌≡◌, ◌++◌}
use Rattle.watch_web.specs.Holding.{names_below}
use Rattle.watch_web.proofs.holding.put_names.Given as goal

abbrev pub invariant-loop-replica : goal.invariant-loop-replica
invariant-loop-replica l = l.text.items ≡ l.fn.text.items ++ names_below l.seen.sources.items l.replica
