use Rattle.std.proofs.Common.{ap, ◌∙◌, subst}
use Rattle.std.proofs.lemmas.Result.{err_from_is_err_and}
use Rattle.key_index_store.specs.State.{IndexState}
use Rattle.vote_log.specs.Logs.{LogState}
use Rattle.vote_desk.specs.DeskRefusals.{IsRoomRefusal}
use Rattle.vote_desk.specs.Desks.{DeskView}
use Rattle.vote_desk.proofs.Delivered.{plan_is_of, room_refused}
use Rattle.vote_desk.proofs.HeldOnly.{hold_refused}
use Rattle.vote_desk.proofs.state.DeskState.plan.Goals as goal

pub returns-in_err-planned-clause-first_refusal : goal.returns-in_err-planned-clause-first_refusal
returns-in_err-planned-clause-first_refusal g c =
    let p = err_from_is_err_and c.from_residual.result c.from_residual.ensures.1 in
    rw (p.1, p.2) (hold_refused c.args.self.now c.args.block.header c.in_err-planned.field-0.0 c.in_err-planned.ensures.first_refusal)

pub returns-in_err-check_room-clause-first_refusal :
    goal.returns-in_err-check_room-clause-first_refusal
returns-in_err-check_room-clause-first_refusal g c =
    let o = c.args.self.now in
    let e = c.in_ok-planned.ensures in
    let plan = c.in_ok-planned.planned.plan in
    let log = ap (λ (d : DeskView _). d.log) c.self.view_is ∙ e.same.log in
    let indices = ap (λ (d : DeskView _). d.indices) c.self.view_is ∙ e.same.indices in
    let is = plan_is_of c.in_ok-planned.planned c.args.block e.block in
    let p = err_from_is_err_and c.from_residual-in_err-check_room.result c.from_residual-in_err-check_room.ensures.1 in
    let refused = c.in_err-check_room.ensures.first_refusal in
    rw (p.1, p.2) (room_refused o c.admit.new.self.core plan c.args.block.header c.in_err-check_room.field-0.0 e.may.running e.may.admissible e.core e.plan is
    (subst (λ (l : LogState _). IsRoomRefusal l o.indices plan.act c.in_err-check_room.field-0.0) log
    (subst (λ (i : IndexState _). IsRoomRefusal c.self.inside.log i plan.act c.in_err-check_room.field-0.0) indices refused)))
