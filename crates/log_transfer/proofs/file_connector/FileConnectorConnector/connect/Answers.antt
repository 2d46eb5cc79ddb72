use Rattle.std.proofs.Common.{arith}
use Rattle.log_transfer.proofs.file_connector.FileConnectorConnector.connect.Goals as goal

pub returns-clause-request : goal.returns-clause-request
returns-clause-request g c = rw (c.in_ok-counted.ensures.kept) at c.open-opened.ensures.start

pub returns-in_err-counted-clause-state : goal.returns-in_err-counted-clause-state
returns-in_err-counted-clause-state g c s reached = (reached.0, omega (arith, reached.1, c.counted.ensures.risen))
