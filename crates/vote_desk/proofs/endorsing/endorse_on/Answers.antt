use Rattle.vote_desk.proofs.Endorsed.{runs_signed}
use Rattle.vote_desk.proofs.HeldOnly.{list_still}
use Rattle.vote_desk.proofs.Steps.{leaves_list}
use Rattle.vote_desk.proofs.endorsing.endorse_on.Goals as goal

pub returns-clause-durable : goal.returns-clause-durable
returns-clause-durable g c =
    let o = c.args.state.now in
    let e = c.endorse.ensures in
    runs_signed g.D.Disk o c.endorse.new.self c.endorse.result e.may e.running e.no_failure e.same.log
    (λ running. leaves_list g.D.Disk.bytes g.D.Disk.images g.N.DeskNaming.committee g.N.DeskNaming.replica g.N.DeskNaming.opening o c.core-core.ensures.keeps running.log)

pub returns-clause-any_moment : goal.returns-clause-any_moment
returns-clause-any_moment g c =
    list_still g.D.Disk c.args.state.now c.endorse.new.self g.N.DeskNaming.committee g.N.DeskNaming.opening c.endorse.ensures.same.log c.list_is_found.ensures
