-- The report of a watch, an object of JSON, as docs/FORMATS.md says.
use Rattle.std.specs.Prelude.{◌++◌, ◌∷◌, [], ℕ, Bool, true, false, List, Option, Some, None, codes, decimal, length, nat_lt, string_bytes, if◌then◌else◌}
use Rattle.std.specs.List.{flat_map}
use Rattle.hex.specs.Hex.{encode_lower}
use Rattle.blocks.specs.declared.ballot.Ballot.{Ballot}
use Rattle.log_format.specs.Readings.{status_name}
use Rattle.log_format.specs.declared.status.Status.{Status}
use Rattle.base_text.specs.Escapes.{escaped}
use Rattle.base_text.specs.declared.escaping.Inside.TheVariants.{Json}
use Rattle.verdict_format.specs.Verdicts.{replica_in}
use Rattle.watch_report.specs.Proved.{pair_in}
use Rattle.watch_report.specs.declared.proved.Pair.{Pair}
use Rattle.watch_report.specs.declared.snapshot.Culprit.{Culprit}
use Rattle.watch_report.specs.declared.snapshot.Fork.{Fork}
use Rattle.watch_report.specs.declared.snapshot.Snapshot.{Snapshot}
use Rattle.watch_report.specs.declared.source.SourceDigests.{SourceDigests}
use Rattle.watch_report.specs.declared.source.SourceSeen.{SourceSeen}

-- each element behind a comma but the first
unfoldable pub listed : {X : Type 0} → (X → List ℕ) → List X → List ℕ
listed text [] = []
listed text (x ∷ xs) = text x ++ flat_map (λ y. codes "," ++ text y) xs

unfoldable pub bool_text : Bool → List ℕ
bool_text true = codes "true"
bool_text false = codes "false"

-- the word for how a log ends, or none as long as nothing was told of it
unfoldable pub status_text : Option Status → List ℕ
status_text None = codes "null"
status_text (Some status) = codes "\"" ++ status_name status ++ codes "\""

-- a text of others as a string
unfoldable pub string_text : List ℕ → List ℕ
string_text text = codes "\"" ++ escaped Json text ++ codes "\""

-- ---- sources

unfoldable pub source_front : SourceSeen → List ℕ
source_front s =
    codes "{\"replica\":" ++ decimal s.replica ++ codes ",\"word\":" ++ string_text (string_bytes s.word)
    ++ codes ",\"status\":" ++ status_text s.status

unfoldable pub digests_text : SourceDigests → List ℕ
digests_text d = codes ",\"digest\":\"" ++ encode_lower d.first ++ codes "\",\"digest_all\":\"" ++ encode_lower d.all ++ codes "\""

unfoldable pub source_counts : SourceSeen → List ℕ
source_counts s =
    codes ",\"frames\":" ++ decimal s.frames ++ codes ",\"entries\":" ++ decimal s.entries
    ++ codes ",\"bad_votes\":" ++ decimal s.bad_votes ++ codes ",\"view\":\"" ++ decimal s.top_view
    ++ codes "\"" ++ digests_text s.digests

unfoldable pub source_times : SourceSeen → List ℕ
source_times s =
    codes ",\"last_answer\":" ++ decimal s.last_answer ++ codes ",\"last_frame\":" ++ decimal s.last_frame
    ++ codes ",\"went_back\":" ++ decimal s.times_back ++ codes ",\"went_back_at\":" ++ decimal s.went_back_at
    ++ codes ",\"set_aside\":" ++ bool_text s.is_aside ++ codes ",\"beyond\":" ++ bool_text s.is_beyond

unfoldable pub source_end : SourceSeen → List ℕ
source_end s = codes ",\"stays\":" ++ bool_text (nat_lt 0 s.stays_since) ++ codes "}"

abbrev pub source_text : SourceSeen → List ℕ
source_text s = source_front s ++ source_counts s ++ source_times s ++ source_end s

-- ---- commits and the conflict

unfoldable pub block_text : Ballot → List ℕ
block_text b = codes "{\"view\":\"" ++ decimal b.view ++ codes "\",\"id\":\"" ++ encode_lower b.id ++ codes "\"}"

unfoldable pub conflict_text : Option Fork → List ℕ
conflict_text None = codes "null"
conflict_text (Some f) = codes "[\"" ++ encode_lower f.first ++ codes "\",\"" ++ encode_lower f.second ++ codes "\"]"

-- ---- culprits

-- the rule and the two votes
unfoldable pub pair_text : Pair → List ℕ
pair_text p = decimal p.rule ++ codes ",\"votes\":[" ++ block_text p.earlier ++ codes "," ++ block_text p.later ++ codes "]"

unfoldable pub culprit_text : Culprit → List ℕ
culprit_text c =
    codes "{\"replica\":" ++ decimal (replica_in c.verdict) ++ codes ",\"rule\":" ++ pair_text (pair_in c.verdict)
    ++ codes ",\"path\":" ++ string_text (string_bytes c.path) ++ codes ",\"unstored\":" ++ bool_text c.is_unstored ++ codes "}"

-- ---- the whole

-- the status that a watch would end with
unfoldable pub status_of : Snapshot → ℕ
status_of s = if nat_lt 0 (length s.culprits.items) then 3 else if nat_lt 0 s.earlier_culprits then 3 else 0

unfoldable pub report_front : (status : ℕ) → (chain : List ℕ) → (committee round started time : ℕ) → List ℕ
report_front status chain committee round started time =
    codes "{\"format\":\"wezhgula-report-1\",\"status\":" ++ decimal status ++ codes ",\"chain\":\"" ++ encode_lower chain
    ++ codes "\",\"committee\":\"" ++ decimal committee ++ codes "\",\"round\":\"" ++ decimal round ++ codes "\",\"started\":" ++ decimal started ++ codes ",\"time\":" ++ decimal time

unfoldable pub report_sources : List SourceSeen → List ℕ
report_sources sources = codes ",\"sources\":[" ++ listed source_text sources ++ codes "]"

unfoldable pub report_commits : (count : ℕ) → List Ballot → Option Fork → (handover : Bool) → List ℕ
report_commits count commits conflict handover =
    codes ",\"commit_count\":\"" ++ decimal count ++ codes "\",\"commits\":[" ++ listed block_text commits
    ++ codes "],\"conflict\":" ++ conflict_text conflict ++ codes ",\"handover\":" ++ bool_text handover

unfoldable pub report_culprits : List Culprit → (unstored : Bool) → (weight total : ℕ) → List ℕ
report_culprits culprits unstored weight total =
    codes ",\"culprits\":[" ++ listed culprit_text culprits ++ codes "],\"unstored\":" ++ bool_text unstored
    ++ codes ",\"weight\":\"" ++ decimal weight ++ codes "\",\"total\":\"" ++ decimal total ++ codes "\"}\n"

unfoldable pub report_text : Snapshot → List ℕ
report_text s =
    report_front (status_of s) s.chain s.committee s.round s.started s.stamped ++ report_sources s.sources.items
    ++ report_commits s.commit_count s.commits.items s.conflict s.has_handover ++ report_culprits s.culprits.items s.is_unstored s.weight s.total
