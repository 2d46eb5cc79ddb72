use Rattle.lmots.specs.Walks.{HaveGoneOn}
use Rattle.lmots.proofs.walks.Walks.ends.Given as goal

abbrev pub invariant-loop : goal.invariant-loop
invariant-loop l = HaveGoneOn l.fn.self l.walks
