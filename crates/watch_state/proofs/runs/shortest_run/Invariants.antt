use Rattle.watch_state.proofs.Shortest.{IsPlace}
use Rattle.watch_state.proofs.runs.shortest_run.Given as goal

abbrev pub invariant-loop-i : goal.invariant-loop-i
invariant-loop-i l = IsPlace l.parts l.i l.least l.place
