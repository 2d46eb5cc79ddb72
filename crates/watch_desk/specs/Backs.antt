-- Whether a source that went back gave all again that it had.
use Rattle.std.specs.Prelude.{◌&&◌, ℕ, Bool, false, nat_eq, nat_le, nat_lt, Option, None, Some, if◌then◌else◌}
use Rattle.watch_report.specs.Times.{lasts_back}
use Rattle.watch_desk.specs.declared.back.Back.{Back}
use Rattle.watch_desk.specs.declared.back.Extent.{Extent}

-- the longer of two pieces of one log; no log begins with pieces of two
abbrev pub longer : Extent → Extent → Option Extent
longer a b = if nat_eq a.log b.log then (if nat_lt a.frames b.frames then Some b else Some a) else None

abbrev pub both : Option Extent → Option Extent → Option Extent
both None b = None
both (Some a) None = None
both (Some a) (Some b) = longer a b

-- it went back at this second, when it had this; what it had when it went back before, within the hour, is still to be given
abbrev pub back_then : Option Back → (second : ℕ) → Option Extent → Back
back_then None second had = record { at = second; had = had }
back_then (Some b) second had = record { at = second; had = if lasts_back b.at second then both b.had had else had }

-- whether this is all that it had
abbrev pub is_all : Option Extent → Extent → Bool
is_all None given = false
is_all (Some had) given = nat_eq had.log given.log && nat_le had.frames given.frames

-- it gives this of a log
abbrev pub back_after : Option Back → Extent → Option Back
back_after None given = None
back_after (Some b) given = if is_all b.had given then None else Some b

-- when it last went back, or 0
abbrev pub back_at : Option Back → ℕ
back_at None = 0
back_at (Some b) = b.at
