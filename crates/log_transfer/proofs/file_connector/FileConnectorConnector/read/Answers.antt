use Rattle.std.proofs.Common.{arith}
use Rattle.log_transfer.proofs.Bounds.{counted_bytes}
use Rattle.log_transfer.proofs.file_connector.FileConnectorConnector.read.Goals as goal

pub returns-clause-bytes : goal.returns-clause-bytes
returns-clause-bytes g c = rw (c.in-Some.is) (counted_bytes c.in-Some.open.budget c.read-outcome.new.self.budget c.counted-2.result c.read-outcome.result c.counted-2.ensures.kept c.counted-2.ensures.lost c.read-outcome.ensures.bytes)

pub returns-in_default-clause-state : goal.returns-in_default-clause-state
returns-in_default-clause-state g c s reached = (reached.0, omega (arith, reached.1, c.counted.ensures.risen))

pub returns-clause-state : goal.returns-clause-state
returns-clause-state g c s reached = (reached.0, omega (arith, reached.1, c.counted-2.ensures.risen))
