use Rattle.handover_renewals.specs.Renewing.{AreBound}
use Rattle.handover_renewals.proofs.judging.has_bound_ids.Given as goal

abbrev pub invariant-loop-k : goal.invariant-loop-k
invariant-loop-k l = AreBound l.old l.new l.s l.k
