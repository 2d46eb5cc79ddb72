use Rattle.std.proofs.Common.{◌≡◌, ◌<◌, length}
use Rattle.replica_requests.specs.declared.reading.TheConstants.{MOST_LINES}
use Rattle.replica_requests.proofs.Giving.{IsReading}
use Rattle.replica_requests.proofs.reading.read_requests.Given as goal

-- no read failed, and what was given is taken in
abbrev pub invariant-reads : goal.invariant-reads
invariant-reads g l =
    (length l.intake.requests.items < MOST_LINES)
    × (g.R.Feed.failed l.lines ≡ g.R.Feed.failed l.fn.lines)
    × IsReading (g.R.Feed.rest l.fn.lines) (g.R.Feed.rest l.lines) l.counter l.intake.requests.items l.intake.line
