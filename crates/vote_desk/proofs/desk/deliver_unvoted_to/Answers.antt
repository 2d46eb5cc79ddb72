use Rattle.vote_desk.specs.Desks.{timed_out_at}
use Rattle.vote_desk.specs.SomeDesk.{IsDeskOf, RefusesUnvoted, RepliesUnvoted}
use Rattle.vote_desk.proofs.Moments.{replies, some_err, some_ok, untold}
use Rattle.vote_desk.proofs.desk.deliver_unvoted_to.Goals as goal

pub returns-clause-session : goal.returns-clause-session
returns-clause-session g c = untold _ _ _ _ c.deliver_unvoted_on-answer.ensures.session

pub returns-clause-event : goal.returns-clause-event
returns-clause-event g c =
    let o = c.args.state.now in
    let d = c.deliver_unvoted_on-answer in
    some_ok (IsDeskOf g.D.Disk g.N.DeskNaming.committee g.N.DeskNaming.replica g.N.DeskNaming.opening) o d.new.state (record { keeps = c.core-core.ensures.keeps; stay = c.core-core.ensures.stay }) (record { keeps = c.core-core-2.ensures.keeps; stay = c.core-core-2.ensures.stay }) (RepliesUnvoted g.D.Disk g.N.DeskNaming.committee g.N.DeskNaming.replica c.args.block) d.result
    (replies g.D.Disk g.N.DeskNaming.committee g.N.DeskNaming.replica c.args.block (timed_out_at o c.args.block.header.view) d.new.state d.result d.ensures.ok d.ensures.durable d.ensures.not_again)

pub returns-clause-refused : goal.returns-clause-refused
returns-clause-refused g c =
    let d = c.deliver_unvoted_on-answer in
    some_err (IsDeskOf g.D.Disk g.N.DeskNaming.committee g.N.DeskNaming.replica g.N.DeskNaming.opening) c.args.state.now d.new.state (record { keeps = c.core-core.ensures.keeps; stay = c.core-core.ensures.stay }) (record { keeps = c.core-core-2.ensures.keeps; stay = c.core-core-2.ensures.stay }) (RefusesUnvoted g.D.Disk c.args.block.header) d.result d.ensures.refused
