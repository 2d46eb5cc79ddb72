use Rattle.std.proofs.Common.{ℕ, Bool, Option, subst, take}
use Rattle.log_transfer.specs.Scripts.{GivesOf}
use Rattle.log_transfer.proofs.Gifts.{gives_behind}
use Rattle.log_transfer.proofs.memory_connector.MemoryConnectorConnector.read.Goals as goal

pub returns-in-Ok-clause-ok : goal.returns-in-Ok-clause-ok
returns-in-Ok-clause-ok c = rw (← c.self.view_is) (λ d g.
    let s = c.self.inside in
    gives_behind (take c.in-Ok.n c.give.new.buffer) s.current c.give.new.self c.in-Ok.ensures.ok.1 c.give.ensures.fails s.fuse d
    (subst (λ (f : Option (ℕ × Bool)). GivesOf f c.give.new.self d) c.burns.ensures.after g))
