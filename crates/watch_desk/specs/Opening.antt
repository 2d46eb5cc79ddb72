-- A log of a source that begins, or is known.
use Rattle.std.specs.Prelude.{◌≡◌, ◌⊎◌, ◌<◌, ℕ, List, [], Option, None, Some, length, slice_get, slice_index_or}
use Rattle.certificates.specs.declared.vote.SignedVote.{SignedVote}
use Rattle.audit_evidence.specs.Logs.{ReceivedLog}
use Rattle.audit_evidence.specs.declared.source.SourceReport.{SourceReport}
use Rattle.watch_collector.specs.Collectors.{IsCollected, MayFollow, logs_then}
use Rattle.watch_collector.specs.Parts.{IsPartOn}
use Rattle.watch_desk.specs.Desks.{ChangesAt, WatchDesk, logs_with, number_for, reports_with}
use Rattle.watch_desk.specs.Taking.{HasBegun, IsNoted, SameButLogs}
use Rattle.watch_desk.specs.Sources.{AreTheBad}
use Rattle.watch_desk.specs.declared.news.News.{News}
use Rattle.watch_desk.specs.declared.source.LogKnown.{LogKnown}
use Rattle.watch_desk.specs.declared.source.NewPart.{NewPart}
use Rattle.watch_desk.specs.declared.source.SourceKnown.{SourceKnown}

-- a log that was not known has begun; of one that was nothing changed
abbrev pub IsBegun : Option LogKnown → (logs new : List LogKnown) → ℕ → Type 0
IsBegun None logs new number = HasBegun logs new number
IsBegun (Some l) logs new number = new ≡ logs

-- the log has this number: where it was not known it is one more, of which nothing came
pub record IsOpened (old new : WatchDesk) (i log number : ℕ) (before after : SourceKnown) : Type 0 where
  pub number_is : number ≡ number_for (slice_get before.logs.items log) (length old.collected.reports)
  pub collected : (committee : List ℕ) (logs : List ReceivedLog) → IsCollected committee logs old.collected
      → IsCollected committee (logs_with (slice_get before.logs.items log) before.replica logs) new.collected
  pub gathered : new.collected.gathered ≡ old.collected.gathered
  pub reports : new.collected.reports ≡ reports_with (slice_get before.logs.items log) before.replica old.collected.reports
  pub changes : ChangesAt old.sources new.sources i before after
  pub same : SameButLogs before after
  pub begun : IsBegun (slice_get before.logs.items log) before.logs.items after.logs.items number
  pub told : new.told ≡ old.told

abbrev pub IsOpenedAt : WatchDesk → WatchDesk → (i log number : ℕ) → Type 0
IsOpenedAt old new i log number = (before : SourceKnown) × (after : SourceKnown) × IsOpened old new i log number before after

-- ---- a part that is added

-- the part was added behind what came of the log of this number, and noted of its source
pub record IsAdded (old new : WatchDesk) (i number : ℕ) (p : NewPart) (heard : List News) (before after : SourceKnown) (report : SourceReport) (bad : List SignedVote) : Type 0 where
  pub collected : (committee : List ℕ) (logs : List ReceivedLog) (l : ReceivedLog) → IsCollected committee logs old.collected → IsPartOn committee l p.part
      → IsCollected committee (logs_then logs number l) new.collected
  pub bad_votes : AreTheBad old.collected.gathered.committee p.part.listing.votes bad
  pub under : new.collected.gathered.committee ≡ old.collected.gathered.committee
  pub report_is : slice_get new.collected.reports number ≡ Some report
  pub changes : ChangesAt old.sources new.sources i before after
  pub noted : IsNoted before after i p report bad heard
  pub told : new.told ≡ old.told

abbrev pub IsAddedAt : WatchDesk → WatchDesk → (i number : ℕ) → NewPart → List News → Type 0
IsAddedAt old new i number p heard =
    (before : SourceKnown) × (after : SourceKnown) × (report : SourceReport) × (bad : List SignedVote) × IsAdded old new i number p heard before after report bad

-- the part goes on where the log ends, of the same replica, and the log is no longer than logs are
abbrev pub MayBeAdded : WatchDesk → ℕ → NewPart → Type 0
MayBeAdded d number p = (number < length d.collected.reports) × MayFollow (slice_index_or d.collected.reports number p.part.report) p.part.report

-- the log was opened, if need be; then the part was added, exactly if that may be
abbrev pub IsTaken : WatchDesk → WatchDesk → ℕ → NewPart → List News → Type 0
IsTaken old new i p heard =
    (middle : WatchDesk) × (number : ℕ) × IsOpenedAt old middle i p.log number
    × ((MayBeAdded middle number p × IsAddedAt middle new i number p heard) ⊎ ((MayBeAdded middle number p → ⊥) × (new ≡ middle) × (heard ≡ [])))

-- ---- something else is noted of a source

-- one source changed so, and nothing else did
pub record IsNotedAs (Is : SourceKnown → SourceKnown → Type 0) (i : ℕ) (old new : WatchDesk) (before after : SourceKnown) : Type 0 where
  pub changes : ChangesAt old.sources new.sources i before after
  pub noted : Is before after
  pub collected : new.collected ≡ old.collected
  pub told : new.told ≡ old.told

abbrev pub IsNotedAt : (SourceKnown → SourceKnown → Type 0) → ℕ → WatchDesk → WatchDesk → Type 0
IsNotedAt Is i old new = (before : SourceKnown) × (after : SourceKnown) × IsNotedAs Is i old new before after
