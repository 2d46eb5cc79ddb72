use Rattle.std.proofs.Common.{◌∙◌, arith}
use Rattle.log_transfer.proofs.server_connector.ServerConnectorConnector.connect.Goals as goal

pub returns-in_err-counted-clause-state : goal.returns-in_err-counted-clause-state
returns-in_err-counted-clause-state g c s reached = (c.wait.ensures.same.0 ∙ reached.0, omega (arith, reached.1, c.wait.ensures.same.2, c.counted.ensures.risen))
