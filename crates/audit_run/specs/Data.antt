-- The report of an audit as JSON. docs/FORMATS.md, "Report for programs".
use Rattle.std.specs.Prelude.{◌++◌, ℕ, List, Option, None, Some, codes, decimal, map}
use Rattle.hex.specs.Hex.{encode_lower}
use Rattle.serde_json.specs.Data.{Data, unsigned, null, number, string, array, object, item, no_items, member, no_members}
use Rattle.serde_json.specs.View.{items_of}
use Rattle.blocks.specs.declared.ballot.Ballot.{Ballot}
use Rattle.log_format.specs.Readings.{status_name}
use Rattle.audit_run.specs.Reasons.{reason_text}
use Rattle.audit_run.specs.declared.reason.Reason.{Reason}
use Rattle.verdict_format.specs.Verdicts.{earlier_in, later_in, replica_in, verdict_kind_in}
use Rattle.culprit_search.specs.Reports.{Report}
use Rattle.culprit_search.specs.declared.report.Commit.{Commit}
use Rattle.culprit_search.specs.declared.report.Conflict.{Conflict}
use Rattle.audit_run.specs.declared.told.AuditTold.{AuditTold}
use Rattle.audit_run.specs.declared.told.SourceTold.{SourceTold}

-- ---- its parts

-- a number of 64 bits, which a reader may hold as a float, stands as its digits
abbrev pub digits_data : ℕ → Data
digits_data n = string (decimal n)

abbrev pub id_data : List ℕ → Data
id_data id = string (encode_lower id)

abbrev pub count_data : ℕ → Data
count_data n = number (unsigned n)

-- a block by its id and view
abbrev pub block_data : ℕ → List ℕ → Data
block_data view id = object (member (codes "id") (id_data id) (member (codes "view") (digits_data view) no_members))

abbrev pub commit_data : Commit → Data
commit_data c = block_data c.view c.id

-- the ids of the two blocks
abbrev pub conflict_data : Option Conflict → Data
conflict_data None = null
conflict_data (Some c) = array (item (id_data c.first) (item (id_data c.second) no_items))

-- ---- sources

abbrev pub reason_data : Option Reason → Data
reason_data None = null
reason_data (Some reason) = string (reason_text reason)

abbrev pub source_data : SourceTold → Data
source_data s =
    object (member (codes "entries") (count_data s.judged.report.entries)
    (member (codes "frames") (count_data s.judged.report.frames)
    (member (codes "good") (count_data s.judged.good)
    (member (codes "reason") (reason_data s.reason)
    (member (codes "replica") (count_data s.judged.report.replica)
    (member (codes "status") (string (status_name s.judged.report.status))
    (member (codes "votes") (count_data s.judged.votes)
    (member (codes "word") (string s.word.now) no_members))))))))

-- ---- culprits

-- where the verdict on a replica stands
abbrev pub verdict_path : List ℕ → ℕ → List ℕ
verdict_path folder replica = folder ++ (codes "/verdict-" ++ (decimal replica ++ codes ".hsx"))

-- what a vote is for
abbrev pub ballot_data : Ballot → Data
ballot_data b = block_data b.view b.id

-- the two votes that a verdict names
abbrev pub votes_data : List ℕ → Data
votes_data verdict = array (item (ballot_data (earlier_in verdict)) (item (ballot_data (later_in verdict)) no_items))

-- the replica, the rule and the two votes that its verdict names, and where that stands
abbrev pub culprit_data : List ℕ → List ℕ → Data
culprit_data folder verdict =
    object (member (codes "path") (string (verdict_path folder (replica_in verdict)))
    (member (codes "replica") (count_data (replica_in verdict))
    (member (codes "rule") (count_data (verdict_kind_in verdict))
    (member (codes "votes") (votes_data verdict) no_members))))

-- ---- the whole

abbrev pub list_data : {X : Type 0} → (X → Data) → List X → Data
list_data f xs = array (items_of (map f xs))

-- what an audit tells of itself, and what it found of these sources, with this report
abbrev pub report_data : AuditTold → List SourceTold → Report → Data
report_data t sources r =
    object (member (codes "chain") (id_data t.chain)
    (member (codes "commits") (list_data commit_data r.commits)
    (member (codes "conflict") (conflict_data r.conflict)
    (member (codes "culprits") (list_data (culprit_data t.folder.now) r.verdicts)
    (member (codes "format") (string (codes "wezhgula-report-1"))
    (member (codes "sources") (list_data source_data sources)
    (member (codes "status") (count_data t.status)
    (member (codes "time") (count_data t.time)
    (member (codes "total") (digits_data t.total)
    (member (codes "version") (string t.version.now)
    (member (codes "weight") (digits_data r.weight) no_members)))))))))))
