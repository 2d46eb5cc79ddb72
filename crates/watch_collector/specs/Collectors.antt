-- What came of sources so far, however often each was asked. docs/DEFINITIONS.md, "Watching".
use Rattle.std.specs.Prelude.{◌≡◌, ◌≤◌, ◌+◌, ◌++◌, ℕ, List, [], slice_index_or, slice_set}
use Rattle.std.specs.List.{AllZip}
use Rattle.base_wire.specs.declared.limits.TheConstants.{MOST_ENTRIES}
use Rattle.log_format.specs.declared.status.Status.TheVariants.{Failed}
use Rattle.audit_evidence.specs.Evidence.{IsReportOf}
use Rattle.audit_evidence.specs.Gathering.{Gathered, IsUnion}
use Rattle.audit_evidence.specs.Logs.{ReceivedLog}
use Rattle.audit_evidence.specs.declared.source.SourceReport.{SourceReport}

-- what a collector knows: what was named so far, and how each source did
pub record Collected : Type 0 where
  pub gathered : Gathered
  pub reports : List SourceReport

-- nothing came of a source yet
abbrev pub unread_log : ℕ → ReceivedLog
unread_log replica = record { replica = replica; frames = []; status = Failed }

abbrev pub unread_report : ℕ → SourceReport
unread_report replica = record { replica = replica; status = Failed; frames = 0; entries = 0 }

-- what came of a source, and behind it what came of it later
abbrev pub log_then : ReceivedLog → ReceivedLog → ReceivedLog
log_then l m = record { replica = l.replica; frames = l.frames ++ m.frames; status = m.status }

abbrev pub report_then : SourceReport → SourceReport → SourceReport
report_then r s = record { replica = r.replica; status = s.status; frames = r.frames + s.frames; entries = r.entries + s.entries }

-- of the i-th source more came
abbrev pub logs_then : List ReceivedLog → ℕ → ReceivedLog → List ReceivedLog
logs_then logs i l = slice_set logs i (log_then (slice_index_or logs i l) l)

abbrev pub reports_then : List SourceReport → ℕ → SourceReport → List SourceReport
reports_then reports i s = slice_set reports i (report_then (slice_index_or reports i s) s)

-- the collector knows what these logs show, one for each source
pub record IsCollected (committee : List ℕ) (logs : List ReceivedLog) (c : Collected) : Type 0 where
  pub union : IsUnion committee logs c.gathered
  pub reports : AllZip IsReportOf logs c.reports

-- what came later is of the same replica, and both together are no more than a log has
pub record MayFollow (r s : SourceReport) : Type 0 where
  pub replica : s.replica ≡ r.replica
  pub frames : r.frames + s.frames ≤ MOST_ENTRIES
  pub entries : r.entries + s.entries ≤ MOST_ENTRIES
