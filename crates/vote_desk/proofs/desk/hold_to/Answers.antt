use Rattle.std.proofs.Common.{◌≡◌}
use Rattle.stable_log.proofs.Told.{ok_maps}
use Rattle.vote_desk.specs.declared.reply.Answer.TheVariants.{Held}
use Rattle.vote_desk.specs.Holding.{IsHeldOnly, RefusesHold}
use Rattle.vote_desk.specs.SomeDesk.{IsDeskOf}
use Rattle.vote_desk.proofs.HeldOnly.{refuses_hold}
use Rattle.vote_desk.proofs.Moments.{some_err, some_ok}
use Rattle.vote_desk.proofs.desk.hold_to.Goals as goal

pub returns-clause-held : goal.returns-clause-held
returns-clause-held g c =
    let d = c.hold_on-answer in
    ok_maps d.result (λ reply. IsHeldOnly c.args.block.header reply c.args.state.now d.new.state) (λ reply. reply.act ≡ Held) d.ensures.ok (λ reply is. is.act)

pub returns-clause-event : goal.returns-clause-event
returns-clause-event g c =
    let d = c.hold_on-answer in
    some_ok (IsDeskOf g.D.Disk g.N.DeskNaming.committee g.N.DeskNaming.replica g.N.DeskNaming.opening) c.args.state.now d.new.state (record { keeps = c.core-core.ensures.keeps; stay = c.core-core.ensures.stay }) (record { keeps = c.core-core-2.ensures.keeps; stay = c.core-core-2.ensures.stay }) (IsHeldOnly c.args.block.header) d.result d.ensures.ok

pub returns-clause-refused : goal.returns-clause-refused
returns-clause-refused g c =
    let o = c.args.state.now in
    let d = c.hold_on-answer in
    some_err (IsDeskOf g.D.Disk g.N.DeskNaming.committee g.N.DeskNaming.replica g.N.DeskNaming.opening) o d.new.state (record { keeps = c.core-core.ensures.keeps; stay = c.core-core.ensures.stay }) (record { keeps = c.core-core-2.ensures.keeps; stay = c.core-core-2.ensures.stay }) (RefusesHold c.args.block.header) d.result
    (refuses_hold g.D.Disk o d.new.state c.args.block.header d.result d.ensures.first_refusal d.ensures.err)
