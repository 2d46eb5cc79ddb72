-- What a watch knew at one moment, in one word.
use Rattle.std.specs.Prelude.{ℕ, Bool, List, is_some, count_by, length, nat_lt, not, ◌==◌, if◌then◌else◌}
use Rattle.std.specs.List.{list_any}
use Rattle.blocks.specs.Weights.{weight_of}
use Rattle.watch_report.specs.declared.snapshot.Snapshot.{Snapshot}
use Rattle.watch_report.specs.declared.snapshot.Standing.{Standing}
use Rattle.watch_report.specs.declared.snapshot.Standing.TheVariants as stands
use Rattle.watch_report.specs.declared.source.SourceSeen.{SourceSeen}
use Rattle.watch_report.specs.Sources.{answers, has_bad_votes, is_back}

-- how many of the sources answer
abbrev pub answering_of : Snapshot → (second : ℕ) → ℕ
answering_of s second = count_by (answers s.every second) s.sources.items

-- ---- the replicas

abbrev pub is_watched : List SourceSeen → ℕ → Bool
is_watched sources r = list_any (λ s. s.replica == r) sources

-- each counts once
abbrev pub once : ℕ → ℕ
once r = 1

-- of how many of the committee's replicas no source is named
abbrev pub unwatched_of : Snapshot → ℕ
unwatched_of s = weight_of once (λ r. not (is_watched s.sources.items r)) s.replicas

-- ---- the worst that holds

-- .. where nothing is wrong with what came
unfoldable pub reading_of : Snapshot → (second : ℕ) → Standing
reading_of s second =
    if s.is_unstored then stands.NotStored
    else if nat_lt s.kept_read s.kept then stands.ReadingKept
    else if answering_of s second == 0 then stands.NothingRead
    else if nat_lt (answering_of s second) (length s.sources.items) then stands.SomeAnswer
    else if nat_lt 0 (unwatched_of s) then stands.Unwatched
    else stands.AllAnswer

-- .. of all
unfoldable pub standing_of : Snapshot → (second : ℕ) → Standing
standing_of s second =
    if is_some s.conflict then stands.Conflict
    else if nat_lt 0 (length s.culprits.items) then stands.Culprits
    else if list_any (is_back second) s.sources.items then stands.WentBack
    else if list_any (λ o. o.is_aside) s.sources.items then stands.SetAside
    else if list_any (λ o. o.is_beyond) s.sources.items then stands.Beyond
    else if list_any has_bad_votes s.sources.items then stands.BadVotes
    else reading_of s second
