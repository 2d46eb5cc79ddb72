use Rattle.vote_desk.specs.Desks.{DeskView}
use Rattle.vote_desk.proofs.HeldOnly.{list_found}
use Rattle.vote_desk.proofs.state.DeskState.list_is_found.Goals as goal

pub returns : goal.returns
returns g c =
    let i = c.self.inside in
    let d : DeskView _ = record { core = i.core; seeds = i.trees.items; indices = i.indices; log = i.log; released = i.book.total } in
    rw (← c.self.view_is) (list_found g.D.Disk g.N.DeskNaming.committee g.N.DeskNaming.replica g.N.DeskNaming.opening d c.self.invariant.desk (g.met.D.Disk.only_now i.log.disk))
