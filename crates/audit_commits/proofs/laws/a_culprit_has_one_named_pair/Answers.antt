use Rattle.audit_commits.proofs.NamedPairs.{one_pair}
use Rattle.audit_commits.proofs.laws.a_culprit_has_one_named_pair.Goals as goal

pub returns : goal.returns
returns c = one_pair
