use Rattle.std.proofs.Common.{◌-◌, ◌≤◌}
use Rattle.log_transfer.specs.Places.{IsCaused, IsPlace, Leads}
use Rattle.log_transfer.specs.Pulls.{first_place}
use Rattle.log_transfer.proofs.fetching.fetch.Given as goal

abbrev pub invariant-loop-payload : goal.invariant-loop-payload
invariant-loop-payload g l = record {
  place : IsPlace (g.C.Connector.taken l.connector) l.place;
  reached : g.C.Connector.reaches l.fn.connector l.connector;
  most : g.C.Connector.taken l.fn.connector ≤ 268451852 → g.C.Connector.taken l.connector ≤ 268451852;
  cause : IsCaused (g.C.Connector.failed l.fn.connector) (g.C.Connector.failed l.connector) l.place;
  leads : Leads (g.C.Connector.gives l.fn.connector) (g.C.Connector.gives l.connector) (g.C.Connector.left l.fn.connector) (g.C.Connector.left l.connector) (first_place l.tries) l.place l.frames.items;
}

abbrev pub decreases-loop-payload : goal.decreases-loop-payload
decreases-loop-payload g l = 4096 - l.place.held
