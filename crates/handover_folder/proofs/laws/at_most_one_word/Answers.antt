use Rattle.handover_folder.proofs.HistoryLaws.{one_endorsement_is_told, one_gone_over_is_told}
use Rattle.handover_folder.proofs.laws.at_most_one_word.Goals as goal

pub returns-clause-endorsed : goal.returns-clause-endorsed
returns-clause-endorsed c = one_endorsement_is_told

pub returns-clause-gone : goal.returns-clause-gone
returns-clause-gone c = one_gone_over_is_told
