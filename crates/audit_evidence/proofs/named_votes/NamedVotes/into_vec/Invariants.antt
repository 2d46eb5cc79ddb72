use Rattle.std.proofs.Common.{take}
use Rattle.std.specs.List.{Contains}
use Rattle.audit_evidence.specs.Gathering.{Gains}
use Rattle.audit_evidence.specs.NamedVotes.{joined}
use Rattle.audit_evidence.proofs.named_votes.NamedVotes.into_vec.Given as goal

abbrev pub invariant-loop-certificate : goal.invariant-loop-certificate
invariant-loop-certificate g l = Gains l.initial.votes l.votes (Contains (joined (take l.certificate-index l.certificate-items)))
