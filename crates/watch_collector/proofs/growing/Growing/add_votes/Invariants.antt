use Rattle.std.proofs.Common.{take}
use Rattle.std.specs.List.{Contains}
use Rattle.audit_evidence.specs.Gathering.{Grows, IsNone}
use Rattle.watch_collector.proofs.growing.Growing.add_votes.Given as goal

abbrev pub invariant-loop-k : goal.invariant-loop-k
invariant-loop-k l = Grows l.fn.self l.self IsNone (Contains (take l.k l.votes))
