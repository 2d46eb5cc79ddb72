use Rattle.std.proofs.Common.{IfSome, sym, ap, subst, ◌∙◌}
use Rattle.vote_desk.specs.declared.parts.Left.{Left}
use Rattle.vote_desk.specs.Deliveries.{SurvivesCrash}
use Rattle.vote_desk.specs.Desks.{DeskView, timed_out_at}
use Rattle.vote_desk.specs.Sparing.{has_more}
use Rattle.vote_desk.proofs.Moments.{refuses, replies}
use Rattle.vote_desk.proofs.Spared.{like_unvoted, may_unvoted, met_as_it_is, met_later, refuses_few, refuses_more, replies_few, replies_more, stands_unvoted, told_unvoted}
use Rattle.vote_desk.proofs.sparing.deliver_sparing_on.Goals as goal

-- ---- where more is left

pub returns-then-has_more-clause-ok : goal.returns-then-has_more-clause-ok
returns-then-has_more-clause-ok g c =
    let o = c.args.state.now in
    let d = c.deliver_on in
    let more = ap (λ (l : Left). has_more l c.args.spare.now) (sym c.left.ensures.value) ∙ sym c.has_more.ensures ∙ c.if-has_more.true in
    replies_more g.D.Disk g.N.DeskNaming.committee g.N.DeskNaming.replica c.args.spare.now c.args.block o d.new.state more d.result
    (replies g.D.Disk g.N.DeskNaming.committee g.N.DeskNaming.replica c.args.block o d.new.state d.result d.ensures.ok d.ensures.durable d.ensures.not_again)

pub returns-then-has_more-clause-refused : goal.returns-then-has_more-clause-refused
returns-then-has_more-clause-refused g c =
    let o = c.args.state.now in
    let d = c.deliver_on in
    let more = ap (λ (l : Left). has_more l c.args.spare.now) (sym c.left.ensures.value) ∙ sym c.has_more.ensures ∙ c.if-has_more.true in
    refuses_more g.D.Disk g.N.DeskNaming.committee g.N.DeskNaming.replica c.args.spare.now c.args.block o d.new.state more d.result
    (refuses g.D.Disk g.N.DeskNaming.committee g.N.DeskNaming.replica c.args.block o d.new.state d.result d.ensures.first_refusal d.ensures.err d.ensures.not_again)

pub returns-then-has_more-clause-any_moment : goal.returns-then-has_more-clause-any_moment
returns-then-has_more-clause-any_moment g c =
    let o = c.args.state.now in
    let d = c.deliver_on in
    let more = ap (λ (l : Left). has_more l c.args.spare.now) (sym c.left.ensures.value) ∙ sym c.has_more.ensures ∙ c.if-has_more.true in
    λ running. subst (λ (m : DeskView _). IfSome (g.D.Disk.bytes o.log.disk) (λ _. SurvivesCrash g.D.Disk g.N.DeskNaming.committee g.N.DeskNaming.replica g.N.DeskNaming.opening m d.new.state c.args.block))
    (sym (met_as_it_is o c.args.spare.now c.args.block.header.view more)) d.ensures.any_moment

-- ---- where it is not

pub returns-else-has_more-clause-ok : goal.returns-else-has_more-clause-ok
returns-else-has_more-clause-ok g c =
    let o = c.args.state.now in
    let d = c.deliver_unvoted_on in
    let few = ap (λ (l : Left). has_more l c.args.spare.now) (sym c.left.ensures.value) ∙ sym c.has_more.ensures ∙ c.if-has_more.false in
    replies_few g.D.Disk g.N.DeskNaming.committee g.N.DeskNaming.replica c.args.spare.now c.args.block o d.new.state few d.result d.ensures.unvoted
    (replies g.D.Disk g.N.DeskNaming.committee g.N.DeskNaming.replica c.args.block (timed_out_at o c.args.block.header.view) d.new.state d.result d.ensures.ok d.ensures.durable d.ensures.not_again)

pub returns-else-has_more-clause-refused : goal.returns-else-has_more-clause-refused
returns-else-has_more-clause-refused g c =
    let o = c.args.state.now in
    let d = c.deliver_unvoted_on in
    let few = ap (λ (l : Left). has_more l c.args.spare.now) (sym c.left.ensures.value) ∙ sym c.has_more.ensures ∙ c.if-has_more.false in
    refuses_few g.D.Disk g.N.DeskNaming.committee g.N.DeskNaming.replica c.args.spare.now c.args.block o d.new.state few d.result d.ensures.refused

pub returns-else-has_more-clause-any_moment : goal.returns-else-has_more-clause-any_moment
returns-else-has_more-clause-any_moment g c =
    let o = c.args.state.now in
    let d = c.deliver_unvoted_on in
    let few = ap (λ (l : Left). has_more l c.args.spare.now) (sym c.left.ensures.value) ∙ sym c.has_more.ensures ∙ c.if-has_more.false in
    λ running. subst (λ (m : DeskView _). IfSome (g.D.Disk.bytes o.log.disk) (λ _. SurvivesCrash g.D.Disk g.N.DeskNaming.committee g.N.DeskNaming.replica g.N.DeskNaming.opening m d.new.state c.args.block))
    (sym (met_later o c.args.spare.now c.args.block.header.view few)) (d.ensures.any_moment running)

pub returns-else-has_more-clause-exact : goal.returns-else-has_more-clause-exact
returns-else-has_more-clause-exact g c =
    may_unvoted c.args.state.now c.args.block.header.view c.args.block.header c.deliver_unvoted_on.result c.deliver_unvoted_on.ensures.exact

pub returns-else-has_more-clause-like : goal.returns-else-has_more-clause-like
returns-else-has_more-clause-like g c =
    like_unvoted c.args.state.now c.args.block.header.view c.args.block.header g.D.Disk.bytes c.deliver_unvoted_on.new.state c.deliver_unvoted_on.ensures.like

pub returns-else-has_more-clause-session : goal.returns-else-has_more-clause-session
returns-else-has_more-clause-session g c = told_unvoted _ _ _ _ c.deliver_unvoted_on.result c.deliver_unvoted_on.ensures.unvoted c.deliver_unvoted_on.ensures.session

pub returns-else-has_more-clause-stands : goal.returns-else-has_more-clause-stands
returns-else-has_more-clause-stands g c = stands_unvoted c.deliver_unvoted_on.new.state.log.steps c.deliver_unvoted_on.result c.deliver_unvoted_on.ensures.unvoted
