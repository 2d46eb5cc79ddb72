use Rattle.handover_steps.proofs.Going.{agree_along, come_to_one, composed, told_come}
use Rattle.handover_steps.proofs.laws.a_lineage_is_followed_step_by_step.Goals as goal

pub returns-clause-told : goal.returns-clause-told
returns-clause-told c = told_come

pub returns-clause-composed : goal.returns-clause-composed
returns-clause-composed c = composed

pub returns-clause-one : goal.returns-clause-one
returns-clause-one c = come_to_one

pub returns-clause-agree : goal.returns-clause-agree
returns-clause-agree c = agree_along c.light_proofs_agree.ensures.two
