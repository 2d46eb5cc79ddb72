use Rattle.replica_core.proofs.Marked.{Walked}
use Rattle.replica_core.proofs.replica.Core.first_from.Given as goal

abbrev pub invariant-loop-parent : goal.invariant-loop-parent
invariant-loop-parent l = record {
  walked : Walked l.self l.mark l.tip l.at l.first;
}

abbrev pub decreases-loop-parent : goal.decreases-loop-parent
decreases-loop-parent l = l.at.view
