use Rattle.vote_desk.specs.Endorsing.{Endorses, RefusesToEndorse}
use Rattle.vote_desk.specs.SomeDesk.{IsDeskOf}
use Rattle.vote_desk.proofs.Endorsed.{endorses, refuses_to_endorse}
use Rattle.vote_desk.proofs.Moments.{some_err, some_ok}
use Rattle.vote_desk.proofs.desk.endorse_to.Goals as goal

pub returns-clause-event : goal.returns-clause-event
returns-clause-event g c =
    let o = c.args.state.now in
    let d = c.endorse_on-answer in
    some_ok (IsDeskOf g.D.Disk g.N.DeskNaming.committee g.N.DeskNaming.replica g.N.DeskNaming.opening) o d.new.state (record { keeps = c.core-core.ensures.keeps; stay = c.core-core.ensures.stay }) (record { keeps = c.core-core-2.ensures.keeps; stay = c.core-core-2.ensures.stay }) (Endorses g.D.Disk g.N.DeskNaming.committee g.N.DeskNaming.replica c.args.statement.now) d.result
    (endorses g.D.Disk o d.new.state g.N.DeskNaming.committee g.N.DeskNaming.replica c.args.statement.now d.result d.ensures.exact d.ensures.ok d.ensures.durable d.ensures.not_again)

pub returns-clause-refused : goal.returns-clause-refused
returns-clause-refused g c =
    let o = c.args.state.now in
    let d = c.endorse_on-answer in
    some_err (IsDeskOf g.D.Disk g.N.DeskNaming.committee g.N.DeskNaming.replica g.N.DeskNaming.opening) o d.new.state (record { keeps = c.core-core.ensures.keeps; stay = c.core-core.ensures.stay }) (record { keeps = c.core-core-2.ensures.keeps; stay = c.core-core-2.ensures.stay }) (RefusesToEndorse g.D.Disk) d.result
    (refuses_to_endorse g.D.Disk o d.new.state d.result d.ensures.first_refusal d.ensures.err d.ensures.not_again)
