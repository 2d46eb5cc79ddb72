use Rattle.log_transfer.proofs.source_connector.ServerOrFileConnector.failures.Goals as goal

pub returns-in-Tcp-clause-next : goal.returns-in-Tcp-clause-next
returns-in-Tcp-clause-next g c = rw (c.in-Tcp.is) (c.failures.ensures.next)

pub returns-in-File-clause-next : goal.returns-in-File-clause-next
returns-in-File-clause-next g c = rw (c.in-File.is) (c.failures-in-File.ensures.next)
