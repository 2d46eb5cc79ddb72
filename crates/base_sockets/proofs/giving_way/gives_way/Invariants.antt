use Rattle.base_sockets.proofs.Places.{IsPlace}
use Rattle.base_sockets.proofs.giving_way.gives_way.Given as goal

abbrev pub invariant-loop-i : goal.invariant-loop-i
invariant-loop-i l = IsPlace l.nth l.all l.i l.least l.place
