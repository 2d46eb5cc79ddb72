use Rattle.std.proofs.Common.{length, take, ◌+◌, ◌-◌, ◌≡◌, ℕ, ◌≤◌}
use Rattle.log_transfer.specs.Connections.{Connection}
use Rattle.log_transfer.specs.Streams.{GaveAll}
use Rattle.log_transfer.proofs.filling.fill.Given as goal

abbrev pub invariant-loop-done : goal.invariant-loop-done
invariant-loop-done g l = record {
  within : l.done ≤ length l.buffer;
  size : length l.buffer ≡ length l.fn.buffer;
  gave : GaveAll (g.C.Connector.left l.fn.connector) (g.C.Connector.left l.connector) (take l.done l.buffer);
  later : (k f m : ℕ) (c : Connection) → g.C.Connector.gives l.connector k f m c → g.C.Connector.gives l.fn.connector k f m c;
  reached : (s : _) → g.C.Connector.reaches s l.fn.connector → g.C.Connector.reaches s l.connector;
  bytes : g.C.Connector.taken l.connector ≤ g.C.Connector.taken l.fn.connector + l.done;
  failed : g.C.Connector.failed l.connector ≡ g.C.Connector.failed l.fn.connector;
}

abbrev pub decreases-loop-done : goal.decreases-loop-done
decreases-loop-done g l = length l.initial.buffer - l.done
