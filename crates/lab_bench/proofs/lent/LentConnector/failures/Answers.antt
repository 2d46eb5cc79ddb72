use Rattle.log_transfer.proofs.Gifts.{some_of_any}
use Rattle.lab_bench.proofs.lent.LentConnector.failures.Goals as goal

pub returns-clause-some : goal.returns-clause-some
returns-clause-some c = some_of_any

pub returns-clause-next : goal.returns-clause-next
returns-clause-next c k f m = some_of_any
