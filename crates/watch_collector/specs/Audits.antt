-- An audit of what came so far.
use Rattle.std.specs.Prelude.{ℕ, List}
use Rattle.audit_evidence.specs.Evidence.{Evidence, IsEvidenceOf}
use Rattle.audit_evidence.specs.Logs.{ReceivedLog}
use Rattle.culprit_search.specs.Reports.{IsAudit, Report}

-- it is the evidence of these logs, and the report is the audit of it
pub record IsAuditOfLogs (committee : List ℕ) (logs : List ReceivedLog) (e : Evidence) (r : Report) : Type 0 where
  pub evidence : IsEvidenceOf committee logs e
  pub audit : IsAudit e r
