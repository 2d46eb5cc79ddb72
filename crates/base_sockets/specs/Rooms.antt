-- How many connections are kept.
use Rattle.std.specs.Prelude.{ℕ, ◌-◌, ◌/◌, min, max}

-- of so many files 64 stay, and so many are taken; each of the sockets has its share of the rest, and at most 1,024
abbrev pub connections : ℕ → ℕ → ℕ → ℕ
connections files taken sockets = min ((files - 64 - taken) / max sockets 1) 1024
