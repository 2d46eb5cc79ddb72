use Rattle.std.proofs.Common.{take}
use Rattle.std.specs.List.{AllZip}
use Rattle.audit_evidence.specs.Evidence.{IsReportOf}
use Rattle.audit_evidence.specs.Sets.{InSome}
use Rattle.audit_evidence.specs.Gathering.{Grows}
use Rattle.audit_evidence.specs.Logs.{LogHasHeader, LogNamesVote}
use Rattle.audit_evidence.proofs.evidence.evidence_of_logs.Given as goal

abbrev pub invariant-loop-log : goal.invariant-loop-log
invariant-loop-log l = record {
  grown : Grows l.initial.gathered l.gathered (InSome LogHasHeader (take l.log-index l.logs)) (InSome LogNamesVote (take l.log-index l.logs));
  reports : AllZip IsReportOf (take l.log-index l.logs) l.reports.items;
}
