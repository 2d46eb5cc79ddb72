use Rattle.vote_desk.specs.SomeDesk.{IsDeskOf}
use Rattle.vote_desk.proofs.Moments.{stops, times_out}
use Rattle.vote_desk.proofs.desk.timeout_to.Goals as goal

pub returns-clause-event : goal.returns-clause-event
returns-clause-event g c =
    let d = c.timeout_on-answer in
    times_out (IsDeskOf g.D.Disk g.N.DeskNaming.committee g.N.DeskNaming.replica g.N.DeskNaming.opening) c.args.state.now d.new.state (record { keeps = c.core-core.ensures.keeps; stay = c.core-core.ensures.stay }) (record { keeps = c.core-core-2.ensures.keeps; stay = c.core-core-2.ensures.stay }) c.args.view d.result d.ensures.exact d.ensures.same

pub returns-clause-refused : goal.returns-clause-refused
returns-clause-refused g c =
    let d = c.timeout_on-answer in
    stops (IsDeskOf g.D.Disk g.N.DeskNaming.committee g.N.DeskNaming.replica g.N.DeskNaming.opening) c.args.state.now d.new.state (record { keeps = c.core-core.ensures.keeps; stay = c.core-core.ensures.stay }) d.result d.ensures.err
