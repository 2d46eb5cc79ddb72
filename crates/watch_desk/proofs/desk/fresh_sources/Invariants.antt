use Rattle.std.proofs.Common.{take}
use Rattle.watch_desk.specs.Taking.{AreFreshSources}
use Rattle.watch_desk.proofs.desk.fresh_sources.Given as goal

abbrev pub invariant-loop-i : goal.invariant-loop-i
invariant-loop-i l = AreFreshSources (take l.i l.replicas) l.sources.items
