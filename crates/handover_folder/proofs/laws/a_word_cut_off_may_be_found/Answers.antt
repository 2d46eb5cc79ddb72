use Rattle.handover_folder.proofs.HistoryLaws.{has_it}
use Rattle.std.proofs.Common.{inl, inr}
use Rattle.handover_folder.proofs.laws.a_word_cut_off_may_be_found.Goals as goal

pub returns-clause-found : goal.returns-clause-found
returns-clause-found c said word image follows says = (inr (follows, says), (says, (inl (has_it said word), tt)))

pub returns-clause-lost : goal.returns-clause-lost
returns-clause-lost c said word other image says follows is = (inl says, (says, (inr (follows, is), tt)))
