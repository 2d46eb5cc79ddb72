use Rattle.std.proofs.Common.{◌++◌, ◌∷◌, [], IfSome, subst}
use Rattle.log_format.specs.EntryText.{Entry}
use Rattle.vote_log.specs.Logs.{LeavesEntries}
use Rattle.vote_desk.proofs.storing.store.Goals as goal

pub returns-clause-durable : goal.returns-clause-durable
returns-clause-durable g c =
    let log = c.args.log.now in
    subst (λ (e : Entry). IfSome (g.D.Disk.bytes log.disk) (λ _. LeavesEntries (g.D.Disk.images c.append.new.self.disk) (log.entries ++ e ∷ [])))
    c.of-entry.ensures c.in_ok-append.ensures.durable
