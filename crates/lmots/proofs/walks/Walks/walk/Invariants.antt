use Rattle.lmots.specs.Walks.{HaveGoneOn}
use Rattle.lmots.proofs.walks.Walks.walk.Given as goal

abbrev pub invariant-loop-l : goal.invariant-loop-l
invariant-loop-l s = HaveGoneOn s.initial.self s.self
