use Rattle.log_transfer.proofs.Gifts.{some_of, some_later}
use Rattle.log_transfer.proofs.memory_connector.MemoryConnectorConnector.failures.Goals as goal

pub returns-clause-some : goal.returns-clause-some
returns-clause-some c = rw (← c.self.view_is) (some_of c.self.inside.fuse c.self.inside.current c.self.invariant.0.open_one)

pub returns-clause-next : goal.returns-clause-next
returns-clause-next c k f m = rw (← c.self.view_is) (some_later c.self.inside.fuse c.self.inside.later.items k c.self.invariant.0.all)
