use Rattle.handover_blocks.proofs.Alone.{alone, in_highest}
use Rattle.handover_blocks.proofs.laws.a_first_handover_is_alone.Goals as goal

pub returns-clause-highest : goal.returns-clause-highest
returns-clause-highest c = in_highest c.evidence_names_each_header_once.ensures

pub returns-clause-alone : goal.returns-clause-alone
returns-clause-alone c = alone c.evidence_names_each_header_once.ensures
