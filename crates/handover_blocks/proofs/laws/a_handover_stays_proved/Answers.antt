use Rattle.handover_blocks.proofs.Inclusion.{stays}
use Rattle.handover_blocks.proofs.laws.a_handover_stays_proved.Goals as goal

pub returns : goal.returns
returns c = stays
