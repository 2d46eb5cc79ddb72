use Rattle.vote_desk.specs.Sparing.{RefusesSparing, RepliesSparing}
use Rattle.vote_desk.specs.SomeDesk.{IsDeskOf}
use Rattle.vote_desk.proofs.Moments.{some_err, some_ok, told_none, told_receipts, told_share}
use Rattle.vote_desk.proofs.desk.deliver_sparing_to.Goals as goal

pub returns-clause-receipt : goal.returns-clause-receipt
returns-clause-receipt g c = told_receipts _ _ _ _ c.deliver_sparing_on-answer.result c.deliver_sparing_on-answer.ensures.session

pub returns-clause-share : goal.returns-clause-share
returns-clause-share g c = told_share _ _ _ _ c.deliver_sparing_on-answer.result c.deliver_sparing_on-answer.ensures.session

pub returns-clause-err : goal.returns-clause-err
returns-clause-err g c = told_none _ _ _ _ c.deliver_sparing_on-answer.result c.deliver_sparing_on-answer.ensures.session

pub returns-clause-event : goal.returns-clause-event
returns-clause-event g c =
    let d = c.deliver_sparing_on-answer in
    some_ok (IsDeskOf g.D.Disk g.N.DeskNaming.committee g.N.DeskNaming.replica g.N.DeskNaming.opening) c.args.state.now d.new.state (record { keeps = c.core-core.ensures.keeps; stay = c.core-core.ensures.stay }) (record { keeps = c.core-core-2.ensures.keeps; stay = c.core-core-2.ensures.stay }) (RepliesSparing g.D.Disk g.N.DeskNaming.committee g.N.DeskNaming.replica c.args.spare.now c.args.block) d.result d.ensures.ok

pub returns-clause-refused : goal.returns-clause-refused
returns-clause-refused g c =
    let d = c.deliver_sparing_on-answer in
    some_err (IsDeskOf g.D.Disk g.N.DeskNaming.committee g.N.DeskNaming.replica g.N.DeskNaming.opening) c.args.state.now d.new.state (record { keeps = c.core-core.ensures.keeps; stay = c.core-core.ensures.stay }) (record { keeps = c.core-core-2.ensures.keeps; stay = c.core-core-2.ensures.stay }) (RefusesSparing g.D.Disk c.args.spare.now c.args.block.header) d.result d.ensures.refused
