use Rattle.std.proofs.Common.{◌≡◌}
use Rattle.std.specs.Prelude.{map}
use Rattle.replica_command.specs.StayText.{IsPrinted}
use Rattle.replica_command.proofs.staying.print_outcomes.Given as goal

abbrev pub invariant-loop-number : goal.invariant-loop-number
invariant-loop-number g l =
    (g.W.Sink.failed l.out ≡ g.W.Sink.failed l.fn.out)
    × IsPrinted (g.W.Sink.text l.fn.out) (g.W.Sink.text l.out) (map (λ d. d.outcomes.items) l.fn.done) l.number l.ending
