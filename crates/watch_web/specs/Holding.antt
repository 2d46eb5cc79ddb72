-- All that holds, each with whom it is of and for how long.
use Rattle.std.specs.Prelude.{◌++◌, ℕ, zero, suc, Bool, true, false, List, [], Option, Some, None, codes, decimal, if◌then◌else◌, nat_lt, string_bytes}
use Rattle.std.specs.List.{flat_map}
use Rattle.verdict_format.specs.Verdicts.{replica_in}
use Rattle.watch_report.specs.Sources.{has_bad_votes, hearing_of, is_back, since_of}
use Rattle.watch_report.specs.Standings.{is_watched, unwatched_of}
use Rattle.watch_report.specs.declared.snapshot.Culprit.{Culprit}
use Rattle.watch_report.specs.declared.snapshot.Fork.{Fork}
use Rattle.watch_report.specs.declared.snapshot.Snapshot.{Snapshot}
use Rattle.watch_report.specs.declared.source.SourceSeen.{SourceSeen}
use Rattle.watch_report.specs.declared.source.SourceState.{SourceState}
use Rattle.watch_report.specs.declared.source.SourceState.TheVariants as does
use Rattle.watch_web.specs.Ages.{for_text}
use Rattle.watch_web.specs.Rows.{remark_text, shown}
use Rattle.watch_web.specs.Words.{share_text}

unfoldable pub conflict_line : (since second : ℕ) → List ℕ
conflict_line since second = codes "<li>Two commits conflict" ++ for_text since second ++ codes "</li>\n"

unfoldable pub conflict_held : Option Fork → (since second : ℕ) → List ℕ
conflict_held None since second = codes ""
conflict_held (Some f) since second = conflict_line since second

unfoldable pub culprit_held : (second : ℕ) → Culprit → List ℕ
culprit_held second c = codes "<li>Replica " ++ decimal (replica_in c.verdict) ++ codes " is a culprit" ++ for_text c.since second ++ codes "</li>\n"

-- a source that does so
unfoldable pub held_line : (second : ℕ) → SourceState → SourceSeen → List ℕ
held_line second state s =
    codes "<li>Replica " ++ decimal s.replica ++ codes ", source " ++ shown (string_bytes s.word) ++ codes ": " ++ remark_text state s.bad_votes
    ++ for_text (since_of state s) second ++ codes "</li>\n"

-- .. where that is so
unfoldable pub held_if : Bool → (second : ℕ) → SourceState → SourceSeen → List ℕ
held_if false second state s = codes ""
held_if true second state s = held_line second state s

-- .. unless it answers
unfoldable pub held_as : (second : ℕ) → SourceState → SourceSeen → List ℕ
held_as second does.Back s = held_line second does.Back s
held_as second does.Aside s = held_line second does.Aside s
held_as second does.Beyond s = held_line second does.Beyond s
held_as second does.Bad s = held_line second does.Bad s
held_as second does.Answers s = codes ""
held_as second does.Silent s = held_line second does.Silent s
held_as second does.Unread s = held_line second does.Unread s
held_as second does.NotWhole s = held_line second does.NotWhole s

-- of what is read: that votes are not good, and that it does not answer
unfoldable pub reading_held : (every second : ℕ) → SourceSeen → List ℕ
reading_held every second s =
    if s.is_aside then codes "" else held_if (has_bad_votes s) second does.Bad s ++ held_as second (hearing_of every second s) s

-- all that holds of a source
unfoldable pub source_held : (every second : ℕ) → SourceSeen → List ℕ
source_held every second s =
    held_if (is_back second s) second does.Back s ++ held_if s.is_aside second does.Aside s ++ held_if s.is_beyond second does.Beyond s
    ++ reading_held every second s

unfoldable pub unstored_line : (since second : ℕ) → List ℕ
unstored_line since second = codes "<li>Something is not stored" ++ for_text since second ++ codes "</li>\n"

unfoldable pub unstored_held : (is_unstored : Bool) → (since second : ℕ) → List ℕ
unstored_held false since second = codes ""
unstored_held true since second = unstored_line since second

-- a replica, unless a source is named for it
unfoldable pub name_of : Bool → ℕ → List ℕ
name_of true r = codes ""
name_of false r = codes " " ++ decimal r

-- .. of those below
abbrev pub names_below : List SourceSeen → ℕ → List ℕ
names_below sources zero = []
names_below sources (suc r) = names_below sources r ++ name_of (is_watched sources r) r

-- so many
unfoldable pub unwatched_line : (count : ℕ) → Snapshot → List ℕ
unwatched_line count s =
    codes "<li>" ++ share_text count s.replicas ++ codes " replicas are not watched:" ++ names_below s.sources.items s.replicas ++ codes "</li>\n"

unfoldable pub unwatched_held : Snapshot → List ℕ
unwatched_held s = if nat_lt 0 (unwatched_of s) then unwatched_line (unwatched_of s) s else codes ""

unfoldable pub holding_text : Snapshot → (second : ℕ) → List ℕ
holding_text s second =
    conflict_held s.conflict s.conflict_since second ++ flat_map (culprit_held second) s.culprits.items
    ++ flat_map (source_held s.every second) s.sources.items ++ unstored_held s.is_unstored s.unstored_since second ++ unwatched_held s
