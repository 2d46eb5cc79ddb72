use Rattle.handover_blocks.proofs.Lineages.{part}
use Rattle.handover_blocks.proofs.laws.lineages_part_at_one_committee.Goals as goal

pub returns : goal.returns
returns c = part
