use Rattle.handover_keys.proofs.Places.{one_place}
use Rattle.handover_keys.proofs.laws.an_id_is_bound_to_one_place.Goals as goal

pub returns : goal.returns
returns c = one_place
