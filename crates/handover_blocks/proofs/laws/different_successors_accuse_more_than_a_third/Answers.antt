use Rattle.handover_blocks.proofs.Firsts.{successors_accuse}
use Rattle.handover_blocks.proofs.Inclusion.{in_two_hands}
use Rattle.handover_blocks.proofs.laws.different_successors_accuse_more_than_a_third.Goals as goal

pub returns-clause-of_one : goal.returns-clause-of_one
returns-clause-of_one c = successors_accuse (record {
  accuse = c.a_conflict_accuses_more_than_a_third.ensures.of_evidence;
  named_once = c.evidence_names_each_header_once.ensures;
})

pub returns-clause-in_two_hands : goal.returns-clause-in_two_hands
returns-clause-in_two_hands c = in_two_hands (record {
  accuse = c.a_conflict_accuses_more_than_a_third.ensures.of_evidence;
  named_once = c.evidence_names_each_header_once.ensures;
})
