use Rattle.watch_collector.proofs.Staying.{offences_stay, culprits_stay, commits_stay, conflicts_stay, weight_grows}
use Rattle.watch_collector.proofs.laws.what_is_proved_stays.Goals as goal

pub returns-clause-offences : goal.returns-clause-offences
returns-clause-offences c = offences_stay

pub returns-clause-culprits : goal.returns-clause-culprits
returns-clause-culprits c = culprits_stay

pub returns-clause-commits : goal.returns-clause-commits
returns-clause-commits c = commits_stay

pub returns-clause-conflicts : goal.returns-clause-conflicts
returns-clause-conflicts c = conflicts_stay

pub returns-clause-weight : goal.returns-clause-weight
returns-clause-weight c = weight_grows
