use Rattle.handover_light.proofs.Agreeing.{agree, agree_with}
use Rattle.handover_light.proofs.laws.light_proofs_agree.Goals as goal

pub returns-clause-two : goal.returns-clause-two
returns-clause-two c = agree (record {
  no_double_vote = c.no_run_has_a_double_vote.ensures;
  no_lock_violation = c.no_run_has_a_lock_violation.ensures;
  accuse = c.a_conflict_accuses_more_than_a_third.ensures.of_any;
})

pub returns-clause-whole : goal.returns-clause-whole
returns-clause-whole c = agree_with (record {
  no_double_vote = c.no_run_has_a_double_vote.ensures;
  no_lock_violation = c.no_run_has_a_lock_violation.ensures;
  accuse = c.a_conflict_accuses_more_than_a_third.ensures.of_any;
})
