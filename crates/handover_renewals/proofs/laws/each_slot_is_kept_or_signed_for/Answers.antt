use Rattle.handover_renewals.proofs.Kept.{each_slot}
use Rattle.handover_renewals.proofs.laws.each_slot_is_kept_or_signed_for.Goals as goal

pub returns : goal.returns
returns c = each_slot
