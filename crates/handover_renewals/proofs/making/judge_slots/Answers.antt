use Rattle.std.proofs.Common.{refl}
use Rattle.handover_renewals.proofs.Good.{too_few}
use Rattle.handover_renewals.proofs.making.judge_slots.Goals as goal

pub returns-in-Err-clause-too_few : goal.returns-in-Err-clause-too_few
returns-in-Err-clause-too_few c = (refl, too_few c.in-Err.field-0 c.args.old.now c.args.new.now c.args.renewal.now c.requires c.in-Err.ensures.first_refusal)
