use Rattle.audit_commits.proofs.ConflictsAccuse.{accused, accused_in_evidence}
use Rattle.audit_commits.proofs.laws.a_conflict_accuses_more_than_a_third.Goals as goal

pub returns-clause-of_any : goal.returns-clause-of_any
returns-clause-of_any c = accused

pub returns-clause-of_evidence : goal.returns-clause-of_evidence
returns-clause-of_evidence c = accused_in_evidence
