use Rattle.std.proofs.Common.{◌≡◌, ◌-◌, length}
use Rattle.log_reading.proofs.Came.{Leaves}
use Rattle.log_reading.proofs.answer.ask.Given as goal

abbrev pub invariant-loop-connector : goal.invariant-loop-connector
invariant-loop-connector g l = record {
  size : length l.buffer.items ≡ 65536;
  few : g.C.Connector.taken l.connector ≡ length l.text.items;
  left : Leaves (g.C.Connector.gives l.fn.connector 0 l.first 257) (g.C.Connector.left l.connector) l.text.items;
  state : g.C.Connector.reaches l.fn.connector l.connector;
}

abbrev pub decreases-loop-connector : goal.decreases-loop-connector
decreases-loop-connector g l = 1572864 - length l.text.items
