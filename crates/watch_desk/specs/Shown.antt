-- What is shown of what a desk knows.
use Rattle.std.specs.Prelude.{◌≡◌, ◌-◌, ◌^◌, min, ℕ, List, [], Bool, true, false, map, drop, length, nat_lt, Option, None, Some, if◌then◌else◌, slice_get, string_bytes, sum_by}
use Rattle.std.specs.List.{All}
use Rattle.blocks.specs.Committees.{n_of, weight_at}
use Rattle.blocks.specs.Genesis.{chain_id_of}
use Rattle.blocks.specs.Weights.{total_of}
use Rattle.blocks.specs.declared.ballot.Ballot.{Ballot}
use Rattle.culprit_search.specs.declared.report.Commit.{Commit}
use Rattle.culprit_search.specs.declared.report.Conflict.{Conflict}
use Rattle.audit_evidence.specs.declared.source.SourceReport.{SourceReport}
use Rattle.log_format.specs.declared.status.Status.{Status}
use Rattle.verdict_format.specs.Proofs.{IsProof}
use Rattle.verdict_format.specs.Verdicts.{replica_in}
use Rattle.watch_report.specs.declared.snapshot.Culprit.{Culprit}
use Rattle.watch_report.specs.declared.snapshot.Fork.{Fork}
use Rattle.watch_report.specs.declared.snapshot.Snapshot.{Snapshot}
use Rattle.watch_report.specs.declared.source.SourceDigests.{SourceDigests}
use Rattle.watch_report.specs.declared.source.SourceSeen.{SourceSeen}
use Rattle.watch_desk.specs.Backs.{back_at}
use Rattle.watch_desk.specs.Desks.{WatchDesk}
use Rattle.watch_desk.specs.News.{most_commits}
use Rattle.watch_desk.specs.Taking.{AllAt, is_aside}
use Rattle.watch_desk.specs.declared.shown.Moment.{Moment}
use Rattle.watch_desk.specs.declared.shown.SourcePlace.{SourcePlace}
use Rattle.watch_desk.specs.declared.shown.VerdictPlace.{VerdictPlace}
use Rattle.watch_desk.specs.declared.source.LogKnown.{LogKnown}
use Rattle.watch_desk.specs.declared.source.SourceKnown.{SourceKnown}

-- numbers rise to this at most
abbrev pub capped : ℕ → ℕ
capped n = min n (2 ^ 64 - 1)

-- ---- the sources

abbrev pub frames_in : Option SourceReport → ℕ
frames_in None = 0
frames_in (Some r) = r.frames

abbrev pub entries_in : Option SourceReport → ℕ
entries_in None = 0
entries_in (Some r) = r.entries

-- how many frames came of a log
abbrev pub frames_of : List SourceReport → LogKnown → ℕ
frames_of reports l = frames_in (slice_get reports l.number)

-- how many of them are entries
abbrev pub entries_of : List SourceReport → LogKnown → ℕ
entries_of reports l = entries_in (slice_get reports l.number)

-- what a desk says of a source
pub record SourceFacts : Type 0 where
  pub replica : ℕ
  pub status : Option Status
  pub frames : ℕ
  pub entries : ℕ
  pub bad_votes : ℕ
  pub top_view : ℕ
  pub digests : SourceDigests
  pub times_back : ℕ
  pub went_back_at : ℕ
  pub is_beyond : Bool
  pub is_aside : Bool

abbrev pub seen_facts : SourceSeen → SourceFacts
seen_facts s = record { replica = s.replica; status = s.status; frames = s.frames; entries = s.entries; bad_votes = s.bad_votes; top_view = s.top_view; digests = s.digests; times_back = s.times_back; went_back_at = s.went_back_at; is_beyond = s.is_beyond; is_aside = s.is_aside }

-- its frames and entries are those of all its logs
abbrev pub known_facts : List SourceReport → SourceKnown → SourceFacts
known_facts reports s = record { replica = s.replica; status = s.status; frames = capped (sum_by (frames_of reports) s.logs.items); entries = capped (sum_by (entries_of reports) s.logs.items); bad_votes = length s.bad.items; top_view = s.top_view; digests = s.digests; times_back = s.times_back; went_back_at = back_at s.back; is_beyond = s.is_beyond; is_aside = is_aside s }

-- what a watch says of a source besides
pub record SourceRest : Type 0 where
  pub word : List ℕ
  pub is_file : Bool
  pub last_answer : ℕ
  pub last_frame : ℕ
  pub status_since : ℕ
  pub bad_since : ℕ
  pub aside_since : ℕ
  pub beyond_since : ℕ
  pub stays_since : ℕ

abbrev pub rest_seen : SourceSeen → SourceRest
rest_seen s = record { word = string_bytes s.word; is_file = s.is_file; last_answer = s.last_answer; last_frame = s.last_frame; status_since = s.status_since; bad_since = s.bad_since; aside_since = s.aside_since; beyond_since = s.beyond_since; stays_since = s.stays_since }

abbrev pub place_rest : Option SourcePlace → SourceRest
place_rest None = record { word = []; is_file = false; last_answer = 0; last_frame = 0; status_since = 0; bad_since = 0; aside_since = 0; beyond_since = 0; stays_since = 0 }
place_rest (Some p) = record { word = string_bytes p.word; is_file = p.is_file; last_answer = p.times.answer; last_frame = p.times.frame; status_since = p.times.status; bad_since = p.times.bad; aside_since = p.times.aside; beyond_since = p.times.beyond; stays_since = p.times.stays }

-- the source at this place is shown under its number, with what is said of it
pub record IsShownAt (places : List SourcePlace) (i : ℕ) (s : SourceSeen) : Type 0 where
  pub number : s.number ≡ min i (2 ^ 16 - 1)
  pub rest : rest_seen s ≡ place_rest (slice_get places i)

-- ---- the culprits

-- what a desk says of a culprit
pub record CulpritFacts : Type 0 where
  pub verdict : List ℕ
  pub weight : ℕ

abbrev pub culprit_facts : Culprit → CulpritFacts
culprit_facts c = record { verdict = c.verdict; weight = c.weight }

abbrev pub weight_in : List ℕ → ℕ → ℕ
weight_in committee replica = if nat_lt replica (n_of committee) then weight_at committee replica else 0

abbrev pub verdict_facts : (committee : List ℕ) → (verdict : List ℕ) → CulpritFacts
verdict_facts committee v = record { verdict = v; weight = weight_in committee (replica_in v) }

-- where the file of a verdict is
pub record VerdictRest : Type 0 where
  pub path : List ℕ
  pub is_unstored : Bool
  pub since : ℕ

abbrev pub culprit_rest : Culprit → VerdictRest
culprit_rest c = record { path = string_bytes c.path; is_unstored = c.is_unstored; since = c.since }

abbrev pub verdict_rest : Option VerdictPlace → VerdictRest
verdict_rest None = record { path = []; is_unstored = true; since = 0 }
verdict_rest (Some p) = record { path = string_bytes p.path; is_unstored = p.is_unstored; since = p.since }

-- the verdict at this place is shown with where its file is
abbrev pub IsFiledAt : List VerdictPlace → ℕ → Culprit → Type 0
IsFiledAt places i c = culprit_rest c ≡ verdict_rest (slice_get places i)

-- each verdict that is shown is a proof under this committee
abbrev pub verdict_of : Culprit → List ℕ
verdict_of c = c.verdict

abbrev pub AreAccepted : (committee : List ℕ) → Snapshot → Type 0
AreAccepted committee s = All (IsProof committee) (map verdict_of s.culprits.items)

-- ---- the commits

abbrev pub commit_shown : Commit → Ballot
commit_shown c = record { view = c.view; id = c.id }

-- the last hundred
abbrev pub last_commits : List Commit → List Ballot
last_commits commits = map commit_shown (drop (length commits - most_commits) commits)

abbrev pub conflict_shown : Option Conflict → Option Fork
conflict_shown None = None
conflict_shown (Some c) = Some (record { first = c.first; second = c.second })

-- ---- all

-- .. with the weights of this committee
pub record IsSnapshotUnder (committee : List ℕ) (d : WatchDesk) (places : List VerdictPlace) (m : Moment) (s : Snapshot) : Type 0 where
  pub sources : map seen_facts s.sources.items ≡ map (known_facts d.collected.reports) d.sources
  pub placed : AllAt (IsShownAt m.sources.items) s.sources.items
  pub culprits : map culprit_facts s.culprits.items ≡ map (verdict_facts committee) d.told.verdicts
  pub stored : AllAt (IsFiledAt places) s.culprits.items
  pub weight : s.weight ≡ capped (sum_by (λ c. c.weight) s.culprits.items)
  pub certified : s.certified ≡ d.told.certified
  pub commits : s.commits.items ≡ last_commits d.told.commits
  pub commit_count : s.commit_count ≡ length d.told.commits
  pub conflict : s.conflict ≡ conflict_shown d.told.conflict
  pub has_handover : s.has_handover ≡ d.told.handover
  pub chain : s.chain ≡ chain_id_of committee
  pub replicas : s.replicas ≡ n_of committee
  pub total : s.total ≡ total_of committee
  pub number : s.committee ≡ m.committee
  pub goes_over : s.goes_over ≡ m.goes_over
  pub earlier_culprits : s.earlier_culprits ≡ m.earlier_culprits
  pub name : s.name ≡ m.name
  pub folder : s.folder ≡ m.folder
  pub started : s.started ≡ m.started
  pub round : s.round ≡ m.round
  pub stamped : s.stamped ≡ m.stamped
  pub took : s.took ≡ m.took
  pub every : s.every ≡ m.every
  pub is_unstored : s.is_unstored ≡ m.is_unstored
  pub unstored_since : s.unstored_since ≡ m.unstored_since
  pub conflict_since : s.conflict_since ≡ m.conflict_since
  pub lines_lost : s.lines_lost ≡ m.lines_lost
  pub kept : s.kept ≡ m.kept
  pub kept_read : s.kept_read ≡ m.kept_read
  pub state_bytes : s.state_bytes ≡ m.state_bytes
  pub state_bytes_max : s.state_bytes_max ≡ m.state_bytes_max
  pub picture : s.picture ≡ m.picture

-- .. with those of the committee that the desk audits
abbrev pub IsSnapshotOf : WatchDesk → List VerdictPlace → Moment → Snapshot → Type 0
IsSnapshotOf d places m s = IsSnapshotUnder d.collected.gathered.committee d places m s
