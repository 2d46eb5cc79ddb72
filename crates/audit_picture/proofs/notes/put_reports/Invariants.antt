use Rattle.std.proofs.Common.{take, string_bytes}
use Rattle.audit_picture.specs.Series.{Adds}
use Rattle.audit_picture.specs.Sources.{AreSourceLines}
use Rattle.audit_picture.proofs.notes.put_reports.Given as goal

abbrev pub invariant-loop-index : goal.invariant-loop-index
invariant-loop-index l = Adds (string_bytes l.initial.text) (string_bytes l.text) (AreSourceLines (take l.index l.reports))
