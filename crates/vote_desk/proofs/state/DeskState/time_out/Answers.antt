use Rattle.vote_desk.specs.Desks.{DeskView}
use Rattle.vote_desk.proofs.Steps.{keeps_timed_out}
use Rattle.vote_desk.proofs.state.DeskState.time_out.Goals as goal

pub invariant_of-self : goal.invariant_of-self
invariant_of-self g c =
    let i = c.self.inside in
    let d : DeskView _ = record { core = i.core; seeds = i.trees.items; indices = i.indices; log = i.log; released = i.book.total } in
    record {
      desk = keeps_timed_out g.D.Disk.bytes g.D.Disk.images g.N.DeskNaming.committee g.N.DeskNaming.replica g.N.DeskNaming.opening d c.self.invariant.desk c.timeout.new.self c.args.view c.timeout.ensures;
      replica_is = c.self.invariant.replica_is;
      chain_is = c.self.invariant.chain_is;
      opened_is = c.self.invariant.opened_is;
    }
