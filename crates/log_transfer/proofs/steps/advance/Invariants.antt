use Rattle.std.proofs.Common.{◌≡◌, ℕ, length}
use Rattle.base_wire.specs.declared.limits.TheConstants.{LONGEST_PAYLOAD}
use Rattle.log_transfer.specs.Places.{IsCaused, IsPlace, work}
use Rattle.log_transfer.specs.Turns.{NoMore}
use Rattle.log_transfer.proofs.steps.advance.Given as goal

abbrev pub invariant-loop-len : goal.invariant-loop-len
invariant-loop-len g l = record {
  buffer : length l.buffer ≡ LONGEST_PAYLOAD;
  place : IsPlace (g.C.Connector.taken l.connector) l.place;
  none : NoMore (g.C.Connector.gives l.fn.connector) (g.C.Connector.gives l.connector) (g.C.Connector.left l.fn.connector) (g.C.Connector.left l.connector) l.fn.place l.place;
  reached : (s : _) → g.C.Connector.reaches s l.fn.connector → g.C.Connector.reaches s l.connector;
  cause : (before : ℕ) → IsCaused before (g.C.Connector.failed l.fn.connector) l.fn.place → IsCaused before (g.C.Connector.failed l.connector) l.place;
}

abbrev pub decreases-loop-len : goal.decreases-loop-len
decreases-loop-len g l = work l.place
