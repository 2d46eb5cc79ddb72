use Rattle.audit_commits.proofs.ConflictsAccuse.{third_of_once}
use Rattle.audit_commits.proofs.laws.a_third_is_more_than_f.Goals as goal

pub returns : goal.returns
returns c = third_of_once
