use Rattle.audit_commits.proofs.ConflictsAccuse.{named_once}
use Rattle.audit_commits.proofs.laws.evidence_names_each_header_once.Goals as goal

pub returns : goal.returns
returns c = named_once
