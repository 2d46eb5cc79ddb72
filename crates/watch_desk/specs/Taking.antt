-- What is known of a source once a part of a log of it came.
use Rattle.std.specs.Prelude.{◌≡◌, ◌++◌, ◌+◌, ◌-◌, ◌^◌, min, ℕ, List, [], ◌∷◌, Bool, true, false, nat_le, length, map, Option, None, Some, replicate, slice_get, slice_set, option_and_then}
use Rattle.std.specs.List.{Contains}
use Rattle.certificates.specs.declared.vote.SignedVote.{SignedVote}
use Rattle.audit_evidence.specs.declared.source.SourceReport.{SourceReport}
use Rattle.log_format.specs.declared.status.Status.{Status}
use Rattle.watch_report.specs.declared.source.SourceDigests.{SourceDigests}
use Rattle.watch_desk.specs.Backs.{back_after, back_then}
use Rattle.watch_desk.specs.Sources.{GainsOnce, most_bad_votes, aside_told, back_told, beyond_told, log_named, status_told, top_from}
use Rattle.watch_desk.specs.declared.back.Extent.{Extent}
use Rattle.watch_desk.specs.declared.news.News.{News}
use Rattle.watch_desk.specs.declared.source.LogKnown.{LogKnown}
use Rattle.watch_desk.specs.declared.source.NewPart.{NewPart}
use Rattle.watch_desk.specs.declared.source.SourceKnown.{SourceKnown}

-- how the log of this number ended when that was told last
abbrev pub told_of : List LogKnown → ℕ → Option Status
told_of logs log = option_and_then (λ l. l.told) (slice_get logs log)

-- the greatest view rises only by parts of which no vote is bad
abbrev pub top_then : ℕ → (bad votes : List SignedVote) → ℕ
top_then top [] votes = top_from top votes
top_then top (v ∷ bad) votes = top

-- whether no more of it is read
abbrev pub is_aside : SourceKnown → Bool
is_aside s = nat_le most_bad_votes (length s.bad.items)

-- a log of which nothing was told, and nothing was kept
pub record IsFreshLog (l : LogKnown) : Type 0 where
  pub told : l.told ≡ None
  pub kept_bad : l.kept_bad.items ≡ []

-- one more log, which has this number
abbrev pub HasBegun : (logs new : List LogKnown) → ℕ → Type 0
HasBegun logs new number = (l : LogKnown) × (l.number ≡ number) × IsFreshLog l × (new ≡ logs ++ l ∷ [])

-- what frames digest to where there are none
abbrev pub no_digests : SourceDigests
no_digests = record { first = replicate 32 0; all = replicate 32 0 }

-- it has one log, which has this number, and nothing came of it yet
pub record IsFreshSource (number : ℕ) (s : SourceKnown) : Type 0 where
  pub logs : HasBegun [] s.logs.items number
  pub status : s.status ≡ None
  pub bad : s.bad.items ≡ []
  pub top_view : s.top_view ≡ 0
  pub times_back : s.times_back ≡ 0
  pub back_told : s.back_told ≡ 0
  pub back : s.back ≡ None
  pub is_beyond : s.is_beyond ≡ false
  pub digests : s.digests ≡ no_digests

-- each of the list has this at its place
abbrev pub AllAt : {X : Type 0} → (ℕ → X → Type 0) → List X → Type 0
AllAt {X} Has xs = (i : ℕ) → (x : X) → slice_get xs i ≡ Some x → Has i x

-- a source of each of these replicas, of which nothing came; the log of the first is log 0, that of the second log 1, ..
pub record AreFreshSources (replicas : List ℕ) (sources : List SourceKnown) : Type 0 where
  pub of : map (λ s. s.replica) sources ≡ replicas
  pub fresh : AllAt IsFreshSource sources

-- nothing changed but what is known of its logs
pub record SameButLogs (old new : SourceKnown) : Type 0 where
  pub replica : new.replica ≡ old.replica
  pub status : new.status ≡ old.status
  pub bad : new.bad ≡ old.bad
  pub top_view : new.top_view ≡ old.top_view
  pub times_back : new.times_back ≡ old.times_back
  pub back_told : new.back_told ≡ old.back_told
  pub back : new.back ≡ old.back
  pub is_beyond : new.is_beyond ≡ old.is_beyond
  pub digests : new.digests ≡ old.digests

-- nothing changed but the bad votes, which gained these, each once
pub record IsCountedIn (old new : SourceKnown) (i : ℕ) (votes : List SignedVote) (before heard : List News) : Type 0 where
  pub bad : GainsOnce old.bad.items new.bad.items (Contains votes)
  pub told : heard ≡ before ++ aside_told i old.replica (length old.bad.items) (length new.bad.items)
  pub logs : new.logs ≡ old.logs
  pub replica : new.replica ≡ old.replica
  pub status : new.status ≡ old.status
  pub top_view : new.top_view ≡ old.top_view
  pub times_back : new.times_back ≡ old.times_back
  pub back_told : new.back_told ≡ old.back_told
  pub back : new.back ≡ old.back
  pub is_beyond : new.is_beyond ≡ old.is_beyond
  pub digests : new.digests ≡ old.digests

-- how the log of this number ends is told
abbrev pub told_in : List LogKnown → ℕ → Status → Option LogKnown → List LogKnown
told_in logs log status None = logs
told_in logs log status (Some l) = slice_set logs log (record { number = l.number; told = Some status; kept_bad = l.kept_bad })

-- where it is known; nothing else is said of any log
abbrev pub logs_told : List LogKnown → ℕ → Status → List LogKnown
logs_told logs log status = told_in logs log status (slice_get logs log)

-- the log of this number gained these bad votes of what was kept of it, each once
pub record HasGained (logs new : List LogKnown) (log : ℕ) (bad : List SignedVote) (l : LogKnown) : Type 0 where
  pub then : LogKnown
  pub is : new ≡ slice_set logs log then
  pub number : then.number ≡ l.number
  pub told : then.told ≡ l.told
  pub gained : GainsOnce l.kept_bad.items then.kept_bad.items (Contains bad)

abbrev pub IsKeptIn : (logs new : List LogKnown) → ℕ → List SignedVote → Option LogKnown → Type 0
IsKeptIn logs new log bad None = new ≡ logs
IsKeptIn logs new log bad (Some l) = HasGained logs new log bad l

-- where it is known; nothing else is said of any log
abbrev pub AreLogsKept : (logs new : List LogKnown) → ℕ → List SignedVote → Type 0
AreLogsKept logs new log bad = IsKeptIn logs new log bad (slice_get logs log)

-- of what was kept before nothing is told, and its bad votes do not count yet; of what comes the log's end is, and its bad votes are
-- counted, each once
abbrev pub IsCounted : (is_kept : Bool) → (old new : SourceKnown) → (i : ℕ) → NewPart → SourceReport → (bad : List SignedVote) → List News → Type 0
IsCounted true old new i p report bad heard =
    (new.bad ≡ old.bad) × (new.status ≡ old.status) × (heard ≡ []) × AreLogsKept old.logs.items new.logs.items p.log bad
IsCounted false old new i p report bad heard =
    GainsOnce old.bad.items new.bad.items (Contains bad) × (new.status ≡ Some report.status)
    × (new.logs.items ≡ logs_told old.logs.items p.log report.status) × (heard ≡ status_told i (log_named (length old.logs.items) p.log) (told_of old.logs.items p.log) report ++ aside_told i old.replica (length old.bad.items) (length new.bad.items))

-- the source is known with one part more, whose log did so, and of whose votes these are not good
pub record IsNoted (old new : SourceKnown) (i : ℕ) (p : NewPart) (report : SourceReport) (bad : List SignedVote) (heard : List News) : Type 0 where
  pub counted : IsCounted p.is_kept old new i p report bad heard
  pub digests : new.digests ≡ p.digests
  pub top : new.top_view ≡ top_then old.top_view bad p.part.listing.votes
  pub replica : new.replica ≡ old.replica
  pub times_back : new.times_back ≡ old.times_back
  pub back_told : new.back_told ≡ old.back_told
  pub back : new.back ≡ old.back
  pub is_beyond : new.is_beyond ≡ old.is_beyond

-- ---- what else is noted of a source

-- it went back once more in this round and at this second, when it had this, and nothing else changed
pub record IsBack (old new : SourceKnown) (i round second : ℕ) (had : Option Extent) (heard : Option News) : Type 0 where
  pub changed : new ≡ record old { back = Some (back_then old.back second had); times_back = min (old.times_back + 1) (2 ^ 64 - 1); back_told = round }
  pub heard_is : heard ≡ back_told i old.replica old.back_told round

-- it gives this of a log, and nothing else changed
abbrev pub IsGiven : (old new : SourceKnown) → Extent → Type 0
IsGiven old new given = new ≡ record old { back = back_after old.back given }

-- it gave one log too many, and nothing else changed
pub record IsBeyond (old new : SourceKnown) (i : ℕ) (heard : Option News) : Type 0 where
  pub changed : new ≡ record old { is_beyond = true }
  pub heard_is : heard ≡ beyond_told i old.replica old.is_beyond

-- the votes that are not good of what was kept of a log
abbrev pub bad_of : Option LogKnown → List SignedVote
bad_of None = []
bad_of (Some l) = l.kept_bad.items

-- they are counted, each once of the source, and nothing else changed
abbrev pub AreKeptCounted : (old new : SourceKnown) → (i log : ℕ) → List News → Type 0
AreKeptCounted old new i log heard = IsCountedIn old new i (bad_of (slice_get old.logs.items log)) [] heard
