use Rattle.vote_desk.specs.Desks.{timed_out_at}
use Rattle.vote_desk.specs.Firsts.{RefusesOnce, RepliesOnce}
use Rattle.vote_desk.specs.SomeDesk.{IsDeskOf}
use Rattle.vote_desk.proofs.Firsts.{none_unvoted, receipts_unvoted, refuses_again, replies_again, share_unvoted}
use Rattle.vote_desk.proofs.Moments.{replies, some_err, some_ok}
use Rattle.vote_desk.proofs.desk.deliver_again_to.Goals as goal

pub returns-clause-receipt : goal.returns-clause-receipt
returns-clause-receipt g c = let d = c.deliver_unvoted_on-answer in receipts_unvoted _ _ _ _ d.result d.ensures.unvoted d.ensures.session

pub returns-clause-share : goal.returns-clause-share
returns-clause-share g c = let d = c.deliver_unvoted_on-answer in share_unvoted _ _ _ _ d.result d.ensures.unvoted d.ensures.session

pub returns-clause-err : goal.returns-clause-err
returns-clause-err g c = let d = c.deliver_unvoted_on-answer in none_unvoted _ _ _ _ d.result d.ensures.session

pub returns-clause-event : goal.returns-clause-event
returns-clause-event g c =
    let o = c.args.state.now in
    let d = c.deliver_unvoted_on-answer in
    let mark = c.args.mark.now in
    some_ok (IsDeskOf g.D.Disk g.N.DeskNaming.committee g.N.DeskNaming.replica g.N.DeskNaming.opening) o d.new.state (record { keeps = c.core-core.ensures.keeps; stay = c.core-core.ensures.stay }) (record { keeps = c.core-core-2.ensures.keeps; stay = c.core-core-2.ensures.stay }) (RepliesOnce g.D.Disk g.N.DeskNaming.committee g.N.DeskNaming.replica mark c.args.block) d.result
    (replies_again g.D.Disk g.N.DeskNaming.committee g.N.DeskNaming.replica mark c.args.block o d.new.state c.requires.again d.result d.ensures.unvoted
    (replies g.D.Disk g.N.DeskNaming.committee g.N.DeskNaming.replica c.args.block (timed_out_at o c.args.block.header.view) d.new.state d.result d.ensures.ok d.ensures.durable d.ensures.not_again))

pub returns-clause-refused : goal.returns-clause-refused
returns-clause-refused g c =
    let o = c.args.state.now in
    let d = c.deliver_unvoted_on-answer in
    let mark = c.args.mark.now in
    some_err (IsDeskOf g.D.Disk g.N.DeskNaming.committee g.N.DeskNaming.replica g.N.DeskNaming.opening) o d.new.state (record { keeps = c.core-core.ensures.keeps; stay = c.core-core.ensures.stay }) (record { keeps = c.core-core-2.ensures.keeps; stay = c.core-core-2.ensures.stay }) (RefusesOnce g.D.Disk mark c.args.block.header) d.result
    (refuses_again g.D.Disk g.N.DeskNaming.committee g.N.DeskNaming.replica mark c.args.block o d.new.state c.requires.again d.result d.ensures.refused)
