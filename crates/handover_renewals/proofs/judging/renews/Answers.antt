use Rattle.handover_renewals.proofs.Refused.{exact_from}
use Rattle.handover_renewals.proofs.judging.renews.Goals as goal

pub returns-clause-exact : goal.returns-clause-exact
returns-clause-exact c = exact_from c.judge.result c.args.old.now c.args.new.now c.args.renewal.now c.judge.ensures.ok c.judge.ensures.first_refusal
