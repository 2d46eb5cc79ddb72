use Rattle.std.proofs.Common.{take}
use Rattle.std.specs.List.{Contains}
use Rattle.audit_evidence.specs.Gathering.{Grows, IsNone}
use Rattle.watch_collector.proofs.growing.Growing.add_headers.Given as goal

abbrev pub invariant-loop-header : goal.invariant-loop-header
invariant-loop-header l = Grows l.fn.self l.self (Contains (take l.header-index l.headers)) IsNone
