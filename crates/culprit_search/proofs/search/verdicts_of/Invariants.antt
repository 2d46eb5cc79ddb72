use Rattle.culprit_search.proofs.NamedPairs.{AreVerdictsBelow}
use Rattle.culprit_search.proofs.search.verdicts_of.Given as goal

abbrev pub invariant-loop-replica : goal.invariant-loop-replica
invariant-loop-replica l = AreVerdictsBelow l.evidence l.replica l.verdicts.items
