use Rattle.watch_collector.proofs.Untouched.{least_named, offences_kept, pair_kept}
use Rattle.watch_collector.proofs.laws.what_is_settled_need_not_be_searched.Goals as goal

pub returns-clause-offences : goal.returns-clause-offences
returns-clause-offences c = offences_kept

pub returns-clause-pair : goal.returns-clause-pair
returns-clause-pair c = pair_kept

pub returns-clause-least : goal.returns-clause-least
returns-clause-least c = least_named
