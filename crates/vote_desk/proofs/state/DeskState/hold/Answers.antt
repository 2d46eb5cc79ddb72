use Rattle.vote_desk.specs.Desks.{DeskView}
use Rattle.vote_desk.proofs.Steps.{keeps_held}
use Rattle.vote_desk.proofs.state.DeskState.hold.Goals as goal

pub invariant_of-self : goal.invariant_of-self
invariant_of-self g c =
    let i = c.self.inside in
    let d : DeskView _ = record { core = i.core; seeds = i.trees.items; indices = i.indices; log = i.log; released = i.book.total } in
    let plan = rw (← c.self.view_is) at c.requires in
    let done = c.hold_only.ensures in
    record {
      desk = keeps_held g.D.Disk.bytes g.D.Disk.images g.N.DeskNaming.committee g.N.DeskNaming.replica g.N.DeskNaming.opening d c.self.invariant.desk c.hold_only.new.self c.args.plan.now plan done.headers done.genesis done.state;
      replica_is = c.self.invariant.replica_is;
      chain_is = c.self.invariant.chain_is;
      opened_is = c.self.invariant.opened_is;
    }
