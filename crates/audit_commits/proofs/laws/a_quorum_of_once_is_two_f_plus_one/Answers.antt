use Rattle.audit_commits.proofs.ConflictsAccuse.{quorum_of_once}
use Rattle.audit_commits.proofs.laws.a_quorum_of_once_is_two_f_plus_one.Goals as goal

pub returns : goal.returns
returns c = quorum_of_once
