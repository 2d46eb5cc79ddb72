use Rattle.std.proofs.Common.{◌≡◌, ◌^◌, ◌-◌, min, take}
use Rattle.watch_state.specs.Joins.{bytes_of}
use Rattle.watch_state.proofs.runs.bytes_of.Given as goal

abbrev pub invariant-loop-part : goal.invariant-loop-part
invariant-loop-part l = l.bytes ≡ min (bytes_of (take l.part-index l.run)) (2 ^ 64 - 1)
