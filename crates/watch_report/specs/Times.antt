-- How old what was seen may be.
use Rattle.std.specs.Prelude.{◌+◌, ◌-◌, ◌*◌, ◌/◌, ℕ, Bool, nat_lt}

-- how many seconds may lie between two answers of a source that is asked again after so many milliseconds
unfoldable pub patience_of : ℕ → ℕ
patience_of every = 30 + (2 * every + 999) / 1000

-- whether an answer of this second is older than that
abbrev pub is_late : (since every second : ℕ) → Bool
is_late since every second = nat_lt (since + patience_of every) second

-- whether the last round is too old
abbrev pub is_old_round : (stamped second : ℕ) → Bool
is_old_round stamped second = nat_lt (stamped + 30) second

-- for an hour a source that went back is shown as one that did
abbrev pub lasts_back : (since second : ℕ) → Bool
lasts_back since second = nat_lt (second - since) 3600
