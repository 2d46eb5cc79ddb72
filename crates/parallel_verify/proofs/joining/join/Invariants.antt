use Rattle.std.proofs.Common.{List, take}
use Rattle.std.specs.List.{AllZip}
use Rattle.audit_evidence.specs.Evidence.{IsReportOf}
use Rattle.audit_evidence.specs.Logs.{ReceivedLog}
use Rattle.parallel_verify.specs.Parts.{HasReport, IsPartOn}
use Rattle.parallel_verify.proofs.Joinings.{AllGrown}
use Rattle.parallel_verify.proofs.joining.join.Given as goal

abbrev pub invariant-loop-part : goal.invariant-loop-part
invariant-loop-part g l = record {
  grown : (logs : List ReceivedLog) → AllZip (IsPartOn l.committee) logs l.parts → AllGrown l.committee l.initial.gathered l.gathered (take l.part-index logs);
  told : (logs : List ReceivedLog) → AllZip (IsPartOn l.committee) logs l.parts → AllZip IsReportOf (take l.part-index logs) l.reports.items;
  reports : AllZip HasReport (take l.part-index l.parts) l.reports.items;
}
