use Rattle.std.proofs.Common.{◌≡◌, ◌<◌, ◌++◌, ℕ, List, length}
use Rattle.replica_requests.specs.Intakes.{IsTakenIn}
use Rattle.replica_requests.specs.declared.reading.TheConstants.{MOST_LINES}
use Rattle.replica_requests.proofs.reading.Intake.take.Given as goal

-- what stands before the rest was taken in
abbrev pub invariant-loop-front : goal.invariant-loop-front
invariant-loop-front l =
    (done : List ℕ) × (l.piece ≡ done ++ l.rest) × (length l.self.requests.items < MOST_LINES)
    × ((text : List ℕ) → IsTakenIn text l.fn.self.requests.items l.fn.self.line → IsTakenIn (text ++ done) l.self.requests.items l.self.line)

abbrev pub decreases-loop-front : goal.decreases-loop-front
decreases-loop-front l = length l.rest
