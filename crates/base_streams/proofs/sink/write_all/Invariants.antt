use Rattle.std.proofs.Common.{◌≡◌, ◌≤◌, ◌-◌, length, take, drop}
use Rattle.base_streams.specs.Streams.{Wrote}
use Rattle.base_streams.proofs.sink.write_all.Given as goal

abbrev pub invariant-loop-rest : goal.invariant-loop-rest
invariant-loop-rest g l =
    let done = length l.bytes - length l.rest in
    (length l.rest ≤ length l.bytes)
    × (l.rest ≡ drop done l.bytes)
    × Wrote (g.W.Sink.text l.fn.out) (g.W.Sink.text l.out) (take done l.bytes)
    × (g.W.Sink.failed l.out ≡ g.W.Sink.failed l.fn.out)

abbrev pub decreases-loop-rest : goal.decreases-loop-rest
decreases-loop-rest g l = length l.rest
