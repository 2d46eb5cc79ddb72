use Rattle.handover_folder.proofs.OwnKeysLaws.{one_a_chain}
use Rattle.handover_folder.proofs.lineage_laws.one_endorsement_a_chain.Goals as goal

pub returns : goal.returns
returns c = one_a_chain
