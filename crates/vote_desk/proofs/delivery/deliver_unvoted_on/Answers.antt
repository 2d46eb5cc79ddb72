use Rattle.std.proofs.Common.{◌≡◌, ◌≢◌, [], ◌∷◌, IfOk, IfErr, IfSome, OnOk, refl, sym, ap, subst, ◌∙◌, append-nil}
use Rattle.std.proofs.lemmas.Result.{err_from_is_err_and}
use Rattle.blocks.specs.Headers.{Header}
use Rattle.replica_core.specs.declared.plan.Act.TheVariants as act
use Rattle.stable_log.proofs.Told.{ok_maps}
use Rattle.vote_desk.specs.declared.desk_error.DeskError.{DeskError}
use Rattle.vote_desk.specs.declared.desk_error.DeskError.TheVariants as error
use Rattle.vote_desk.specs.Deliveries.{BoundsIndices, IsDelivered, IsLeftAfter, IsLike, RunsOn, SurvivesCrash, act_of}
use Rattle.vote_desk.specs.DeskRefusals.{IsDeskRefusal, MayDo}
use Rattle.vote_desk.specs.Desks.{DeskView, timed_out_at}
use Rattle.vote_desk.specs.SomeDesk.{RefusesUnvoted}
use Rattle.vote_desk.proofs.Moments.{never_stopped, refuses_unvoted, told_held, unvoted_act}
use Rattle.vote_desk.proofs.delivery.deliver_unvoted_on.Goals as goal

-- ---- a desk that is stopped

pub returns-in_err-timeout_on-clause-any_moment : goal.returns-in_err-timeout_on-clause-any_moment
returns-in_err-timeout_on-clause-any_moment g c running = absurd (never_stopped c.args.state.now running c.in_err-timeout_on.ensures.err.1)

pub returns-in_err-timeout_on-clause-like : goal.returns-in_err-timeout_on-clause-like
returns-in_err-timeout_on-clause-like g c =
    let o = c.args.state.now in
    subst (λ (m : DeskView _). IsLike g.D.Disk.bytes (timed_out_at o c.args.block.header.view) m) (sym c.in_err-timeout_on.ensures.err.2)
    (record { keys = refl; tells = (λ s. s, λ s. s); grows = ([], sym (append-nil o.log.steps)); stopped = λ _. refl })

pub returns-in_err-timeout_on-clause-refused : goal.returns-in_err-timeout_on-clause-refused
returns-in_err-timeout_on-clause-refused g c =
    let err = c.in_err-timeout_on.ensures.err in
    let p = err_from_is_err_and c.from_residual.result c.from_residual.ensures.1 in
    rw (p.1, p.2) (subst (λ (e : DeskError). RefusesUnvoted g.D.Disk c.args.block.header e c.args.state.now c.timeout_on.new.state) (sym err.0) (err.1, err.2))

pub returns-in_err-timeout_on-clause-not_again : goal.returns-in_err-timeout_on-clause-not_again
returns-in_err-timeout_on-clause-not_again g c =
    let o = c.args.state.now in
    subst (λ (m : DeskView _). IfSome (g.D.Disk.bytes o.indices.disk) (λ _. BoundsIndices g.D.Disk o.indices m.indices)) (sym c.in_err-timeout_on.ensures.err.2) c.indices_are_bounded.ensures

-- ---- a delivery behind the timeout

pub returns-clause-ok : goal.returns-clause-ok
returns-clause-ok g c =
    let later = c.in_ok-timeout_on.ensures.same ∙ ap (λ (h : Header). timed_out_at c.args.state.now h.view) (c.behind-block.view_is ∙ c.header.ensures.value) in
    let d = c.deliver_on in
    subst (λ (m : DeskView _). IfOk d.result (IsDelivered g.D.Disk.bytes g.N.DeskNaming.committee g.N.DeskNaming.replica m d.new.state c.args.block)) later d.ensures.ok

pub returns-clause-exact : goal.returns-clause-exact
returns-clause-exact g c =
    let later = c.in_ok-timeout_on.ensures.same ∙ ap (λ (h : Header). timed_out_at c.args.state.now h.view) (c.behind-block.view_is ∙ c.header.ensures.value) in
    let d = c.deliver_on in
    subst (λ (m : DeskView _). IfOk d.result (λ reply. MayDo m c.args.block.header (act_of reply.act))) later d.ensures.exact

pub returns-clause-unvoted : goal.returns-clause-unvoted
returns-clause-unvoted g c =
    let o = c.args.state.now in
    let d = c.deliver_on in
    let b = c.args.block.header in
    ok_maps d.result (IsDelivered g.D.Disk.bytes g.N.DeskNaming.committee g.N.DeskNaming.replica (timed_out_at o b.view) d.new.state c.args.block) (λ reply. act_of reply.act ≢ act.Vote) (returns-clause-ok g c)
    (λ reply is. unvoted_act o.core.genesis b o.core.state (is.parent ∷ is.below) (act_of reply.act) is.planned.act)

pub returns-clause-durable : goal.returns-clause-durable
returns-clause-durable g c =
    let later = c.in_ok-timeout_on.ensures.same ∙ ap (λ (h : Header). timed_out_at c.args.state.now h.view) (c.behind-block.view_is ∙ c.header.ensures.value) in
    let d = c.deliver_on in
    subst (λ (m : DeskView _). OnOk d.result (RunsOn g.D.Disk m d.new.state)) later d.ensures.durable

pub returns-clause-session : goal.returns-clause-session
returns-clause-session g c = told_held _ _ _ _ c.deliver_on.result c.deliver_on.ensures.session (returns-clause-unvoted g c)

pub returns-clause-any_moment : goal.returns-clause-any_moment
returns-clause-any_moment g c =
    let later = c.in_ok-timeout_on.ensures.same ∙ ap (λ (h : Header). timed_out_at c.args.state.now h.view) (c.behind-block.view_is ∙ c.header.ensures.value) in
    let d = c.deliver_on in
    λ running. subst (λ (m : DeskView _). IfSome (g.D.Disk.bytes m.log.disk) (λ _. SurvivesCrash g.D.Disk g.N.DeskNaming.committee g.N.DeskNaming.replica g.N.DeskNaming.opening m d.new.state c.args.block)) later d.ensures.any_moment

pub returns-clause-like : goal.returns-clause-like
returns-clause-like g c =
    let later = c.in_ok-timeout_on.ensures.same ∙ ap (λ (h : Header). timed_out_at c.args.state.now h.view) (c.behind-block.view_is ∙ c.header.ensures.value) in
    let d = c.deliver_on in
    subst (λ (m : DeskView _). IsLike g.D.Disk.bytes m d.new.state) later d.ensures.like

pub returns-clause-not_again : goal.returns-clause-not_again
returns-clause-not_again g c =
    let later = c.in_ok-timeout_on.ensures.same ∙ ap (λ (h : Header). timed_out_at c.args.state.now h.view) (c.behind-block.view_is ∙ c.header.ensures.value) in
    let d = c.deliver_on in
    subst (λ (m : DeskView _). IfSome (g.D.Disk.bytes m.indices.disk) (λ _. BoundsIndices g.D.Disk m.indices d.new.state.indices)) later d.ensures.not_again

pub returns-clause-refused : goal.returns-clause-refused
returns-clause-refused g c =
    let later = c.in_ok-timeout_on.ensures.same ∙ ap (λ (h : Header). timed_out_at c.args.state.now h.view) (c.behind-block.view_is ∙ c.header.ensures.value) in
    let d = c.deliver_on in
    refuses_unvoted g.D.Disk c.args.block.header c.args.state.now d.new.state c.in_ok-timeout_on.ensures.exact (returns-clause-not_again g c) d.result
    (subst (λ (m : DeskView _). IfErr d.result (IsDeskRefusal m c.args.block.header)) later d.ensures.first_refusal)
    (subst (λ (m : DeskView _). IfErr d.result (IsLeftAfter g.D.Disk.failed m d.new.state)) later d.ensures.err)

pub returns-clause-undrawn : goal.returns-clause-undrawn
returns-clause-undrawn g c =
    let later = c.in_ok-timeout_on.ensures.same ∙ ap (λ (h : Header). timed_out_at c.args.state.now h.view) (c.behind-block.view_is ∙ c.header.ensures.value) in
    let d = c.deliver_on in
    subst (λ (m : DeskView _). IfErr d.result (λ e. e ≢ error.Memory → e ≢ error.Device → d.new.state.indices ≡ m.indices)) later d.ensures.undrawn
