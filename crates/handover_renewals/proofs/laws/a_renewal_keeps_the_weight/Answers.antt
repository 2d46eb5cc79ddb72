use Rattle.handover_renewals.proofs.Kept.{each_set, quorum_same}
use Rattle.handover_renewals.proofs.laws.a_renewal_keeps_the_weight.Goals as goal

pub returns-clause-sets : goal.returns-clause-sets
returns-clause-sets c = each_set

pub returns-clause-quorum : goal.returns-clause-quorum
returns-clause-quorum c = quorum_same
