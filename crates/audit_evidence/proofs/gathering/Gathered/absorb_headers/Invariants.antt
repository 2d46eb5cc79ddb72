use Rattle.std.proofs.Common.{take}
use Rattle.std.specs.List.{Contains}
use Rattle.audit_evidence.specs.Gathering.{Grows}
use Rattle.audit_evidence.specs.Gathering.{IsNone}
use Rattle.audit_evidence.proofs.gathering.Gathered.absorb_headers.Given as goal

abbrev pub invariant-loop-header : goal.invariant-loop-header
invariant-loop-header g l = Grows l.fn.self l.self (Contains (take l.header-index l.headers)) IsNone
