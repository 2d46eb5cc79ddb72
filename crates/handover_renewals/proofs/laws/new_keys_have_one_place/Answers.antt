use Rattle.handover_renewals.proofs.Kept.{new_keys}
use Rattle.handover_renewals.proofs.laws.new_keys_have_one_place.Goals as goal

pub returns : goal.returns
returns c = new_keys
