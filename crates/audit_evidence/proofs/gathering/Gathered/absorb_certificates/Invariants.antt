use Rattle.std.proofs.Common.{take}
use Rattle.std.specs.List.{Contains}
use Rattle.audit_evidence.specs.Gathering.{Grows, IsNone}
use Rattle.audit_evidence.specs.NamedVotes.{joined}
use Rattle.audit_evidence.proofs.gathering.Gathered.absorb_certificates.Given as goal

abbrev pub invariant-loop-certificate : goal.invariant-loop-certificate
invariant-loop-certificate g l = Grows l.fn.self l.self IsNone (Contains (joined (take l.certificate-index l.certificates)))
