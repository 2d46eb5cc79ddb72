use Rattle.handover_folder.proofs.Lineages.{handed_on}
use Rattle.handover_folder.proofs.lineage_laws.each_slot_is_handed_on.Goals as goal

pub returns : goal.returns
returns c = handed_on
