-- The lines of a watch, as docs/hs_watch.md lays them out. Each ends with a line feed.
use Rattle.std.specs.Prelude.{ℕ, ◌++◌, List, Option, None, Some, codes, decimal}
use Rattle.hex.specs.Hex.{encode_lower}
use Rattle.log_format.specs.Readings.{status_name}
use Rattle.audit_evidence.specs.declared.source.SourceReport.{SourceReport}
use Rattle.verdict_format.specs.Verdicts.{verdict_kind_in, replica_in, earlier_in, later_in}
use Rattle.culprit_search.specs.declared.report.Commit.{Commit}
use Rattle.culprit_search.specs.declared.report.Conflict.{Conflict}

-- "TIME round N ", before each line
unfoldable pub stamp_text : List ℕ → ℕ → List ℕ
stamp_text time round = time ++ codes " round " ++ decimal round ++ codes " "

-- "commit VIEW ID"
unfoldable pub commit_news : List ℕ → Commit → List ℕ
commit_news stamp c = stamp ++ codes "commit " ++ decimal c.view ++ codes " " ++ encode_lower c.id ++ codes "\n"

-- "conflict ID ID"
unfoldable pub conflict_news : List ℕ → Conflict → List ℕ
conflict_news stamp c = stamp ++ codes "conflict " ++ encode_lower c.first ++ codes " " ++ encode_lower c.second ++ codes "\n"

-- "culprit R rule K views E W PATH"
unfoldable pub culprit_news : List ℕ → List ℕ → List ℕ → List ℕ
culprit_news stamp verdict path =
    stamp ++ codes "culprit " ++ decimal (replica_in verdict) ++ codes " rule " ++ decimal (verdict_kind_in verdict)
    ++ codes " views " ++ decimal (earlier_in verdict).view ++ codes " " ++ decimal (later_in verdict).view ++ codes " " ++ path ++ codes "\n"

-- "culprit R kept PATH": the verdict was there at the start
unfoldable pub kept_news : List ℕ → ℕ → List ℕ → List ℕ
kept_news stamp replica path = stamp ++ codes "culprit " ++ decimal replica ++ codes " kept " ++ path ++ codes "\n"

-- " log R-I-K": the replica, which of its sources, and which log of that
unfoldable pub log_text : (replica nth : ℕ) → Option ℕ → List ℕ
log_text replica nth None = codes ""
log_text replica nth (Some log) = codes " log " ++ decimal replica ++ codes "-" ++ decimal nth ++ codes "-" ++ decimal log

-- "source I replica R STATUS frames F entries E"
unfoldable pub source_news : List ℕ → (i nth : ℕ) → (log : Option ℕ) → SourceReport → List ℕ
source_news stamp i nth log s =
    stamp ++ codes "source " ++ decimal i ++ codes " replica " ++ decimal s.replica ++ codes " " ++ status_name s.status
    ++ codes " frames " ++ decimal s.frames ++ codes " entries " ++ decimal s.entries ++ log_text s.replica nth log ++ codes "\n"

-- "WORD I replica R", of a source: it went back, was set aside, or gave one log too many
unfoldable pub source_alarm : List ℕ → List ℕ → ℕ → ℕ → List ℕ
source_alarm stamp word i replica = stamp ++ word ++ codes " " ++ decimal i ++ codes " replica " ++ decimal replica ++ codes "\n"

-- "unstored PATH"
unfoldable pub unstored_news : List ℕ → List ℕ → List ℕ
unstored_news stamp path = stamp ++ codes "unstored " ++ path ++ codes "\n"

-- "lost N": so many lines were not taken
unfoldable pub lost_news : List ℕ → ℕ → List ℕ
lost_news stamp count = stamp ++ codes "lost " ++ decimal count ++ codes "\n"
