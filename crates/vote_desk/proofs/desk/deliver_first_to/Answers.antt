use Rattle.vote_desk.specs.Firsts.{RefusesOnce, RepliesOnce}
use Rattle.vote_desk.specs.SomeDesk.{IsDeskOf}
use Rattle.vote_desk.proofs.Firsts.{refuses_once, replies_once}
use Rattle.vote_desk.proofs.Moments.{refuses, replies, some_err, some_ok, told_none, told_receipts, told_share}
use Rattle.vote_desk.proofs.desk.deliver_first_to.Goals as goal

pub returns-clause-receipt : goal.returns-clause-receipt
returns-clause-receipt g c = told_receipts _ _ _ _ c.deliver_on-answer.result c.deliver_on-answer.ensures.session

pub returns-clause-share : goal.returns-clause-share
returns-clause-share g c = told_share _ _ _ _ c.deliver_on-answer.result c.deliver_on-answer.ensures.session

pub returns-clause-err : goal.returns-clause-err
returns-clause-err g c = told_none _ _ _ _ c.deliver_on-answer.result c.deliver_on-answer.ensures.session

pub returns-clause-event : goal.returns-clause-event
returns-clause-event g c =
    let o = c.args.state.now in
    let d = c.deliver_on-answer in
    let mark = c.args.mark.now in
    some_ok (IsDeskOf g.D.Disk g.N.DeskNaming.committee g.N.DeskNaming.replica g.N.DeskNaming.opening) o d.new.state (record { keeps = c.core-core.ensures.keeps; stay = c.core-core.ensures.stay }) (record { keeps = c.core-core-2.ensures.keeps; stay = c.core-core-2.ensures.stay }) (RepliesOnce g.D.Disk g.N.DeskNaming.committee g.N.DeskNaming.replica mark c.args.block) d.result
    (replies_once g.D.Disk g.N.DeskNaming.committee g.N.DeskNaming.replica mark c.args.block o d.new.state c.requires.once d.result
    (replies g.D.Disk g.N.DeskNaming.committee g.N.DeskNaming.replica c.args.block o d.new.state d.result d.ensures.ok d.ensures.durable d.ensures.not_again))

pub returns-clause-refused : goal.returns-clause-refused
returns-clause-refused g c =
    let o = c.args.state.now in
    let d = c.deliver_on-answer in
    let mark = c.args.mark.now in
    some_err (IsDeskOf g.D.Disk g.N.DeskNaming.committee g.N.DeskNaming.replica g.N.DeskNaming.opening) o d.new.state (record { keeps = c.core-core.ensures.keeps; stay = c.core-core.ensures.stay }) (record { keeps = c.core-core-2.ensures.keeps; stay = c.core-core-2.ensures.stay }) (RefusesOnce g.D.Disk mark c.args.block.header) d.result
    (refuses_once g.D.Disk g.N.DeskNaming.committee g.N.DeskNaming.replica mark c.args.block o d.new.state c.requires.once d.result
    (refuses g.D.Disk g.N.DeskNaming.committee g.N.DeskNaming.replica c.args.block o d.new.state d.result d.ensures.first_refusal d.ensures.err d.ensures.not_again))
