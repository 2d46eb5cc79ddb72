use Rattle.handover_folder.proofs.HistoryLaws.{crashes_leave_it, told_is_found}
use Rattle.handover_folder.proofs.laws.a_told_word_is_found.Goals as goal

pub returns-clause-found : goal.returns-clause-found
returns-clause-found c = told_is_found

pub returns-clause-left : goal.returns-clause-left
returns-clause-left c = crashes_leave_it
