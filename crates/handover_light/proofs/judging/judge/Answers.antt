use Rattle.handover_light.proofs.Passed.{proves}
use Rattle.handover_light.proofs.judging.judge.Goals as goal

pub returns-in-None-clause-ok : goal.returns-in-None-clause-ok
returns-in-None-clause-ok c = proves c.args.committee.now c.args.proof.now c.headers-headers.ensures.is_light_proof c.in_ok-judge_form.ensures.ok c.in-None.ensures.none
