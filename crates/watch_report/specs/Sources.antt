-- How a source does.
use Rattle.std.specs.Prelude.{ℕ, Bool, true, false, Option, Some, None, is_some, nat_lt, ◌==◌, ◌||◌, if◌then◌else◌}
use Rattle.log_format.specs.declared.status.Status.{Status}
use Rattle.log_format.specs.declared.status.Status.TheVariants.{Whole, Cut, Broken, TooLong, Failed}
use Rattle.watch_report.specs.declared.source.SourceSeen.{SourceSeen}
use Rattle.watch_report.specs.declared.source.SourceState.{SourceState}
use Rattle.watch_report.specs.declared.source.SourceState.TheVariants as does
use Rattle.watch_report.specs.Times.{is_late, lasts_back}

-- whether what came last of a source had its end mark
abbrev pub is_whole : Option Status → Bool
is_whole None = false
is_whole (Some Whole) = true
is_whole (Some Cut) = false
is_whole (Some Broken) = false
is_whole (Some TooLong) = false
is_whole (Some Failed) = false

abbrev pub has_bad_votes : SourceSeen → Bool
has_bad_votes s = nat_lt 0 s.bad_votes

-- what came last of it was whole, and of a server it is not too old
abbrev pub is_heard : (every second : ℕ) → SourceSeen → Bool
is_heard every second s =
    if is_whole s.status then (if s.is_file then true else (if is_late s.last_answer every second then false else true)) else false

-- whether a source answers: all of it is read, none of its votes is bad, and it is heard
abbrev pub answers : (every second : ℕ) → SourceSeen → Bool
answers every second s = if s.is_aside || s.is_beyond then false else (if has_bad_votes s then false else is_heard every second s)

-- whether a source went back and has not given all that it had again; for an hour at most
abbrev pub is_back : (second : ℕ) → SourceSeen → Bool
is_back second s = if s.went_back_at == 0 then false else lasts_back s.went_back_at second

-- how it answers, whatever else is wrong with it
unfoldable pub hearing_of : (every second : ℕ) → SourceSeen → SourceState
hearing_of every second s =
    if is_heard every second s then does.Answers
    else if is_whole s.status then does.Silent
    else if is_some s.status then does.NotWhole
    else does.Unread

-- the first that is so
unfoldable pub source_state_of : (every second : ℕ) → SourceSeen → SourceState
source_state_of every second s =
    if is_back second s then does.Back
    else if s.is_aside then does.Aside
    else if s.is_beyond then does.Beyond
    else if has_bad_votes s then does.Bad
    else hearing_of every second s

-- since when
unfoldable pub since_of : SourceState → SourceSeen → ℕ
since_of does.Back s = s.went_back_at
since_of does.Aside s = s.aside_since
since_of does.Beyond s = s.beyond_since
since_of does.Bad s = s.bad_since
since_of does.Answers s = s.last_answer
since_of does.Silent s = s.last_answer
since_of does.Unread s = 0
since_of does.NotWhole s = s.status_since
