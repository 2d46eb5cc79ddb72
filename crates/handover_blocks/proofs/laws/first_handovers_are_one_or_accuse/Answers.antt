use Rattle.handover_blocks.proofs.Firsts.{first_or_accused}
use Rattle.handover_blocks.proofs.laws.first_handovers_are_one_or_accuse.Goals as goal

pub returns : goal.returns
returns c = first_or_accused (record {
  accuse = c.a_conflict_accuses_more_than_a_third.ensures.of_evidence;
  named_once = c.evidence_names_each_header_once.ensures;
})
