use Rattle.std.proofs.Common.{◌≤◌, take}
use Rattle.watch_collector.specs.Growing.{AreBadAmong}
use Rattle.watch_collector.proofs.growing.Growing.bad_among.Given as goal

abbrev pub invariant-loop-vote : goal.invariant-loop-vote
invariant-loop-vote l = record {
  so_far : AreBadAmong l.self.committee (take l.vote-index l.votes) l.bad;
  few : l.bad ≤ l.vote-index;
}
