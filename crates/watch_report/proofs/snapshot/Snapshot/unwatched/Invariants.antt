use Rattle.std.proofs.Common.{◌≡◌, ◌≤◌}
use Rattle.std.specs.Prelude.{not}
use Rattle.blocks.specs.Weights.{weight_of}
use Rattle.watch_report.specs.Standings.{is_watched, once}
use Rattle.watch_report.proofs.snapshot.Snapshot.unwatched.Given as goal

abbrev pub invariant-loop-replica : goal.invariant-loop-replica
invariant-loop-replica l = record {
  count : l.count ≡ weight_of once (λ r. not (is_watched l.self.sources.items r)) l.replica;
  most : l.count ≤ l.replica;
}
