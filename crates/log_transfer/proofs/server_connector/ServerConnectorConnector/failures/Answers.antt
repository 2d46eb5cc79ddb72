use Rattle.log_transfer.proofs.Gifts.{some_of_any}
use Rattle.log_transfer.proofs.server_connector.ServerConnectorConnector.failures.Goals as goal

pub returns-clause-some : goal.returns-clause-some
returns-clause-some g c = some_of_any

pub returns-clause-next : goal.returns-clause-next
returns-clause-next g c k f m = some_of_any
