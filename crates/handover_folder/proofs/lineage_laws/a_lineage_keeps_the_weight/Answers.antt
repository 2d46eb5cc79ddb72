use Rattle.handover_folder.proofs.Lineages.{as_many, last_quorum, last_weight}
use Rattle.handover_folder.proofs.lineage_laws.a_lineage_keeps_the_weight.Goals as goal

pub returns-clause-replicas : goal.returns-clause-replicas
returns-clause-replicas c = as_many

pub returns-clause-sets : goal.returns-clause-sets
returns-clause-sets c = last_weight

pub returns-clause-quorum : goal.returns-clause-quorum
returns-clause-quorum c = last_quorum
