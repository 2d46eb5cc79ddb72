-- When a connection has taken too long. Times are in milliseconds.
use Rattle.std.specs.Prelude.{◌≡◌, ◌<◌, ◌⊎◌, true, false}
use Rattle.base_sockets.specs.declared.bounds.Bounds.{Bounds}
use Rattle.base_sockets.specs.declared.standing.Standing.{Standing}

-- its request is not whole by then
abbrev pub AsksTooLong : Bounds → Standing → Type 0
AsksTooLong bounds s = (s.is_asking ≡ true) × (bounds.asking < s.age)

-- it takes nothing of its answer for so long
abbrev pub TakesNothing : Bounds → Standing → Type 0
TakesNothing bounds s = (s.is_asking ≡ false) × (bounds.answering < s.idle)

-- one of them, or it is too old
abbrev pub IsOver : Bounds → Standing → Type 0
IsOver bounds s = (bounds.whole < s.age) ⊎ AsksTooLong bounds s ⊎ TakesNothing bounds s
