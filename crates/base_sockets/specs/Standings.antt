-- How a connection stands.
use Rattle.std.specs.Prelude.{ℕ, ◌*◌, ◌-◌, ◌/◌, ◌^◌, max, min}
use Rattle.std.specs.Time.{instant_nanos}
use Rattle.std.specs.declared.time.Instant.{Instant}
use Rattle.base_sockets.specs.declared.standing.Standing.{Standing}

-- so many nanoseconds in whole milliseconds, at most as many as 32 bits count
abbrev pub milliseconds : ℕ → ℕ
milliseconds nanos = min (nanos / 1_000_000) (2 ^ 32 - 1)

-- the milliseconds from one moment to a later one
abbrev pub milliseconds_between : Instant → Instant → ℕ
milliseconds_between then now = milliseconds (instant_nanos now - instant_nanos then)

-- the bytes that it sent and took a second, in whole bytes
abbrev pub rate : Standing → ℕ
rate s = s.bytes * 1000 / max s.age 1
