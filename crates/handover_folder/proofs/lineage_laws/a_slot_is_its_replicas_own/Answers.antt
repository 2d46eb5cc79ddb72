use Rattle.handover_folder.proofs.OwnKeysLaws.{its_own, same_next}
use Rattle.handover_folder.proofs.lineage_laws.a_slot_is_its_replicas_own.Goals as goal

pub returns-clause-own : goal.returns-clause-own
returns-clause-own c = its_own

pub returns-clause-alike : goal.returns-clause-alike
returns-clause-alike c = same_next
