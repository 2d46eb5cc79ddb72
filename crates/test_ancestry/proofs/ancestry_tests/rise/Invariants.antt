use Rattle.test_ancestry.proofs.Rising.{RisesBelow}
use Rattle.test_ancestry.proofs.ancestry_tests.rise.Given as goal

abbrev pub invariant-loop-k : goal.invariant-loop-k
invariant-loop-k l = RisesBelow l.headers l.k
