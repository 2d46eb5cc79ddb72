use Rattle.std.proofs.Common.{◌≡◌, ◌++◌, ℕ, List, length}
use Rattle.base_streams.specs.Streams.{Wrote}
use Rattle.base_text.specs.Printed.{printed}
use Rattle.base_text.proofs.path.write_printed.Given as goal

-- the bytes before the rest were written
abbrev pub invariant-loop-rest : goal.invariant-loop-rest
invariant-loop-rest g l =
    (done : List ℕ) × (l.text ≡ done ++ l.rest)
    × Wrote (g.W.Sink.text l.fn.out) (g.W.Sink.text l.out) (printed done)
    × (g.W.Sink.failed l.out ≡ g.W.Sink.failed l.fn.out)

abbrev pub decreases-loop-rest : goal.decreases-loop-rest
decreases-loop-rest g l = length l.rest
