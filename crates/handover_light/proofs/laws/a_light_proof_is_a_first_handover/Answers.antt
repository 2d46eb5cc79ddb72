use Rattle.handover_light.proofs.Whole.{whole}
use Rattle.handover_light.proofs.laws.a_light_proof_is_a_first_handover.Goals as goal

pub returns : goal.returns
returns c = whole
