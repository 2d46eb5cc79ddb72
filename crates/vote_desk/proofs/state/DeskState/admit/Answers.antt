use Rattle.vote_log.specs.Logs.{StandsForEntries}
use Rattle.vote_desk.specs.Desks.{DeskView}
use Rattle.vote_desk.proofs.Delivered.{plan_legal}
use Rattle.vote_desk.proofs.Steps.{unmoved}
use Rattle.vote_desk.proofs.state.DeskState.admit.Goals as goal

pub returns-clause-legal : goal.returns-clause-legal
returns-clause-legal g c =
    let i = c.self.inside in
    let d : DeskView _ = record { core = i.core; seeds = i.trees.items; indices = i.indices; log = i.log; released = i.book.total } in
    let e = c.in-Ok.ensures in
    rw (← c.self.view_is) (plan_legal g.D.Disk.bytes g.D.Disk.images g.N.DeskNaming.committee g.N.DeskNaming.replica g.N.DeskNaming.opening d c.self.invariant.desk c.admit.new.self c.in-Ok.plan e.same e.plan)

pub returns-in-Err-Memory-clause-unmoved : goal.returns-in-Err-Memory-clause-unmoved
returns-in-Err-Memory-clause-unmoved g c =
    let i = c.self.inside in
    let d : DeskView _ = record { core = i.core; seeds = i.trees.items; indices = i.indices; log = i.log; released = i.book.total } in
    rw (← c.self.view_is) (λ running. unmoved g.D.Disk.bytes g.D.Disk.images g.N.DeskNaming.committee g.N.DeskNaming.replica g.N.DeskNaming.opening d c.self.invariant.desk g.D.Disk.moment g.D.Disk.images_since (λ image. StandsForEntries image i.log.entries) (g.met.D.Disk.only_now i.log.disk) running.log (λ image s. s))

pub returns-in-Err-clause-unmoved : goal.returns-in-Err-clause-unmoved
returns-in-Err-clause-unmoved g c =
    let i = c.self.inside in
    let d : DeskView _ = record { core = i.core; seeds = i.trees.items; indices = i.indices; log = i.log; released = i.book.total } in
    rw (← c.self.view_is) (λ running. unmoved g.D.Disk.bytes g.D.Disk.images g.N.DeskNaming.committee g.N.DeskNaming.replica g.N.DeskNaming.opening d c.self.invariant.desk g.D.Disk.moment g.D.Disk.images_since (λ image. StandsForEntries image i.log.entries) (g.met.D.Disk.only_now i.log.disk) running.log (λ image s. s))

pub returns-clause-unmoved : goal.returns-clause-unmoved
returns-clause-unmoved g c =
    let i = c.self.inside in
    let d : DeskView _ = record { core = i.core; seeds = i.trees.items; indices = i.indices; log = i.log; released = i.book.total } in
    rw (← c.self.view_is) (λ running. unmoved g.D.Disk.bytes g.D.Disk.images g.N.DeskNaming.committee g.N.DeskNaming.replica g.N.DeskNaming.opening d c.self.invariant.desk g.D.Disk.moment g.D.Disk.images_since (λ image. StandsForEntries image i.log.entries) (g.met.D.Disk.only_now i.log.disk) running.log (λ image s. s))
