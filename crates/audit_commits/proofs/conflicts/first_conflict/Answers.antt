use Rattle.audit_commits.proofs.ConflictFacts.{found_is}
use Rattle.audit_commits.proofs.conflicts.first_conflict.Goals as goal

pub returns : goal.returns
returns c = λ e is these are. found_is e c.args.commits.now c.args.chains.now c.first_pair.result is these are c.first_pair.ensures
