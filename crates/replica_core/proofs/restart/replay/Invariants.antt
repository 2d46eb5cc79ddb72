use Rattle.std.proofs.Common.{◌≡◌, take}
use Rattle.blocks.specs.Replay.{replay}
use Rattle.replica_core.proofs.restart.replay.Given as goal

abbrev pub invariant-loop-entry : goal.invariant-loop-entry
invariant-loop-entry l = l.durable ≡ replay l.fn.genesis (take l.entry-index l.entries)
