use Rattle.std.proofs.Common.{ap}
use Rattle.vote_log.specs.Logs.{LogState}
use Rattle.vote_desk.specs.Desks.{DeskView, desk_of}
use Rattle.vote_desk.proofs.OnlyRead.{keeps_read, moved_log, out_of}
use Rattle.vote_desk.proofs.state.DeskState.export.Goals as goal

pub invariant_of-self : goal.invariant_of-self
invariant_of-self g c =
    let i = c.self.inside in
    let d : DeskView _ = record { core = i.core; seeds = i.trees.items; indices = i.indices; log = i.log; released = i.book.total } in
    let same = c.export.ensures.same in
    record {
      desk = keeps_read g.D.Disk.bytes g.D.Disk.images g.D.Disk.moment g.D.Disk.images_since g.N.DeskNaming.committee g.N.DeskNaming.replica g.N.DeskNaming.opening d c.export.new.self c.self.invariant.desk same.4
          (moved_log i.log c.export.new.self same.0 same.1 same.2 same.3);
      replica_is = c.self.invariant.replica_is;
      chain_is = c.self.invariant.chain_is;
      opened_is = c.self.invariant.opened_is;
    }

pub returns-clause-ok : goal.returns-clause-ok
returns-clause-ok g c =
    rw (← c.self.view_is)
    (out_of g.D.Disk.bytes c.self.inside.log c.args.first c.args.most (g.W.Sink.text c.args.sink.now) (g.W.Sink.text c.export.new.sink) c.export.result c.export.ensures.ok c.export.ensures.count c.export.ensures.exact)

pub returns-clause-same : goal.returns-clause-same
returns-clause-same g c =
    let i = c.self.inside in
    let same = c.export.ensures.same in
    rw (← c.self.view_is) (record {
      same = ap (λ (l : LogState _). desk_of i.core i.trees.items i.indices l i.book.total) (moved_log i.log c.export.new.self same.0 same.1 same.2 same.3);
      untouched = same.4;
    })
