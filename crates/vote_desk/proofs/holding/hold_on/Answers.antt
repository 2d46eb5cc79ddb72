use Rattle.std.proofs.Common.{IfSome, subst, sym, ◌∙◌}
use Rattle.blocks.specs.Headers.{Header}
use Rattle.key_index_store.specs.State.{IndexState}
use Rattle.vote_desk.specs.Deliveries.{BoundsIndices, CommitsIn}
use Rattle.vote_desk.proofs.Delivered.{committed_in, plan_is_of}
use Rattle.vote_desk.proofs.HeldOnly.{held_only, list_still, runs_still, still_on}
use Rattle.vote_desk.proofs.holding.hold_on.Goals as goal

-- ---- a block that is refused

pub returns-in_err-planned-clause-any_moment : goal.returns-in_err-planned-clause-any_moment
returns-in_err-planned-clause-any_moment g c =
    list_still g.D.Disk c.args.state.now c.admit.new.self g.N.DeskNaming.committee g.N.DeskNaming.opening c.admit.ensures.same.log c.list_is_found.ensures

pub returns-in_err-planned-clause-not_again : goal.returns-in_err-planned-clause-not_again
returns-in_err-planned-clause-not_again g c =
    let o = c.args.state.now in
    subst (λ (i : IndexState _). IfSome (g.D.Disk.bytes o.indices.disk) (λ _. BoundsIndices g.D.Disk o.indices i)) (sym c.admit.ensures.same.indices) c.indices_are_bounded.ensures

-- ---- a block that is held

pub returns-clause-ok : goal.returns-clause-ok
returns-clause-ok g c =
    let e = c.in_ok-planned.ensures in
    let h = c.hold.ensures in
    held_only c.args.state.now c.admit.new.self c.hold.new.self c.in_ok-planned.planned.plan c.args.block.header e.core e.plan (plan_is_of c.in_ok-planned.planned c.args.block e.block) h.headers h.genesis h.state e.same h.still

pub returns-clause-reply : goal.returns-clause-reply
returns-clause-reply g c =
    let e = c.in_ok-planned.ensures in
    let is = plan_is_of c.in_ok-planned.planned c.args.block e.block in
    record {
      answer = tt;
      committed = subst (λ (h : Header). IfSome c.in_ok-planned.planned.plan.committed (CommitsIn h c.args.block.header)) e.chain
          (committed_in c.args.state.now.core c.admit.new.self.core c.in_ok-planned.planned.plan c.args.block.header e.core e.plan is);
    }

pub returns-clause-durable : goal.returns-clause-durable
returns-clause-durable g c =
    let e = c.in_ok-planned.ensures in
    runs_still g.D.Disk c.args.state.now c.hold.new.self (still_on c.args.state.now c.admit.new.self c.hold.new.self e.same c.hold.ensures.still) e.may.running e.durable

pub returns-clause-any_moment : goal.returns-clause-any_moment
returns-clause-any_moment g c =
    list_still g.D.Disk c.args.state.now c.hold.new.self g.N.DeskNaming.committee g.N.DeskNaming.opening (c.hold.ensures.still.log ∙ c.in_ok-planned.ensures.same.log) c.list_is_found.ensures

pub returns-clause-not_again : goal.returns-clause-not_again
returns-clause-not_again g c =
    let o = c.args.state.now in
    subst (λ (i : IndexState _). IfSome (g.D.Disk.bytes o.indices.disk) (λ _. BoundsIndices g.D.Disk o.indices i)) (sym (c.hold.ensures.still.indices ∙ c.in_ok-planned.ensures.same.indices)) c.indices_are_bounded.ensures
