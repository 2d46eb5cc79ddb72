-- What a desk knows, and what it knows once more came.
use Rattle.std.specs.Prelude.{◌≡◌, ◌≢◌, ◌++◌, ℕ, List, [], ◌∷◌, length, Option, None, Some, false, slice_get}
use Rattle.audit_evidence.specs.Logs.{ReceivedLog}
use Rattle.audit_evidence.specs.declared.source.SourceReport.{SourceReport}
use Rattle.watch_collector.specs.Collectors.{Collected, unread_log, unread_report}
use Rattle.watch_desk.specs.Hearing.{Told}
use Rattle.watch_desk.specs.declared.source.LogKnown.{LogKnown}
use Rattle.watch_desk.specs.declared.source.SourceKnown.{SourceKnown}

-- what came of the logs, what is known of the sources, and what was told
pub record WatchDesk : Type 0 where
  pub collected : Collected
  pub sources : List SourceKnown
  pub told : Told

-- at the start the verdicts of files were told, and nothing else
abbrev pub told_first : List (List ℕ) → Told
told_first kept = record { commits = []; conflict = None; handover = false; verdicts = kept; certified = 0 }

-- ---- a log of a source

-- the collector's number for it: where it is not known yet, the next
abbrev pub number_for : Option LogKnown → (next : ℕ) → ℕ
number_for None next = next
number_for (Some l) next = l.number

-- with it, the logs that came
abbrev pub logs_with : Option LogKnown → ℕ → List ReceivedLog → List ReceivedLog
logs_with None replica logs = logs ++ unread_log replica ∷ []
logs_with (Some l) replica logs = logs

abbrev pub reports_with : Option LogKnown → ℕ → List SourceReport → List SourceReport
reports_with None replica reports = reports ++ unread_report replica ∷ []
reports_with (Some l) replica reports = reports

-- ---- one source alone changes

pub record ChangesAt (old new : List SourceKnown) (i : ℕ) (before after : SourceKnown) : Type 0 where
  pub was : slice_get old i ≡ Some before
  pub is : slice_get new i ≡ Some after
  pub others : (k : ℕ) → k ≢ i → slice_get new k ≡ slice_get old k
  pub count : length new ≡ length old
