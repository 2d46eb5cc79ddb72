use Rattle.std.proofs.Common.{take}
use Rattle.blocks.specs.Weights.{committee_of}
use Rattle.audit_commits.specs.Commits.{IsCertified}
use Rattle.audit_commits.specs.Chosen.{AreThose}
use Rattle.audit_commits.proofs.certified.certified_headers.Given as goal

abbrev pub invariant-loop-header : goal.invariant-loop-header
invariant-loop-header l = AreThose (IsCertified (committee_of l.evidence.committee) l.evidence) (take l.header-index l.evidence.headers) l.chosen.items
