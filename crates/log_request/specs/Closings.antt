-- How a read shows that a server closed a connection, or broke it off.
use Rattle.std.specs.Prelude.{ℕ, ◌≡◌, ◌<◌, Bool, true, false, Result, MatchResult}
use Rattle.std.specs.IoError.{error_kind}
use Rattle.std.specs.declared.io.Error.{Error}
use Rattle.std.specs.declared.io.ErrorKind.{ErrorKind}
use Rattle.std.specs.declared.io.ErrorKind.TheVariants.{ConnectionReset, BrokenPipe, ConnectionAborted, UnexpectedEof}

-- the kinds of error that say so
abbrev pub closes : ErrorKind → Bool
closes ConnectionReset = true
closes BrokenPipe = true
closes ConnectionAborted = true
closes UnexpectedEof = true
closes _ = false

-- a read into so much room was at the end, or failed by such an error
abbrev pub GaveNothing : Result ℕ Error → ℕ → Type 0
GaveNothing outcome room = MatchResult outcome (λ n. (n ≡ 0) × (0 < room)) (λ e. closes (error_kind e) ≡ true)
