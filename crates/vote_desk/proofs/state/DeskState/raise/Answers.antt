use Rattle.std.proofs.Common.{◌≡◌, ◌++◌, ◌∷◌, [], false, Err, None, refl, sym, ap, subst, ◌∙◌}
use Rattle.blocks.specs.Headers.{Header}
use Rattle.blocks.specs.Replica.{Stored}
use Rattle.blocks.specs.Replay.{IsLegal}
use Rattle.log_format.specs.EntryText.{Entry, stored_in}
use Rattle.vote_desk.specs.declared.desk_error.DeskError.{DeskError}
use Rattle.vote_desk.specs.Deliveries.{entry_for, planned_entry}
use Rattle.vote_desk.specs.Desks.{DeskView}
use Rattle.vote_desk.proofs.Lists.{rising_raise, vote_same}
use Rattle.vote_desk.proofs.Steps.{keeps_refused, keeps_stored, plan_is_legal}
use Rattle.vote_desk.proofs.state.DeskState.raise.Goals as goal

pub store-requires-clause-legal : goal.store-requires-clause-legal
store-requires-clause-legal g c =
    let i = c.self.inside in
    let d : DeskView _ = record { core = i.core; seeds = i.trees.items; indices = i.indices; log = i.log; released = i.book.total } in
    let plan = rw (← c.self.view_is) at c.requires.plan in
    let legal = plan_is_legal g.D.Disk.bytes g.D.Disk.images g.N.DeskNaming.committee g.N.DeskNaming.replica g.N.DeskNaming.opening d c.self.invariant.desk c.args.planned.plan false plan c.requires.act in
    let same : planned_entry c.args.planned.plan false ≡ stored_in (entry_for c.args.planned.block c.args.planned.plan.parent None) =
    ap (λ (b : Header). let x : Stored = record { voted = false; block = b; parent = c.args.planned.plan.parent } in x) c.args.planned.of_block in
    subst (λ (x : Stored). IsLegal i.log.genesis (i.log.steps ++ x ∷ [])) same legal

pub invariant_of-self : goal.invariant_of-self
invariant_of-self g c =
    let i = c.self.inside in
    let d : DeskView _ = record { core = i.core; seeds = i.trees.items; indices = i.indices; log = i.log; released = i.book.total } in
    let plan = rw (← c.self.view_is) at c.requires.plan in
    let refused = c.in_err-store.ensures in
    let same : stored_in (entry_for c.args.planned.block c.args.planned.plan.parent None) ≡ planned_entry c.args.planned.plan false =
    ap (λ (b : Header). let x : Stored = record { voted = false; block = b; parent = c.args.planned.plan.parent } in x) (sym c.args.planned.of_block) in
    record {
      desk = keeps_refused g.D.Disk.bytes g.D.Disk.images g.N.DeskNaming.committee g.N.DeskNaming.replica g.N.DeskNaming.opening d c.self.invariant.desk c.store.new.core c.store.new.log c.args.planned.plan false (entry_for c.args.planned.block c.args.planned.plan.parent None) c.in_err-store.field-0.0 g.D.Disk.moment g.D.Disk.images_since
          plan c.requires.act same refused.is_entry g.met.D.Disk.counts_now refused.core refused.genesis refused.tells (λ e. refused.device (ap (λ (x : DeskError). Err x) e)) refused.err refused.any_moment;
      replica_is = c.self.invariant.replica_is;
      chain_is = c.self.invariant.chain_is;
      opened_is = c.self.invariant.opened_is;
    }

pub invariant_of-self-2 : goal.invariant_of-self-2
invariant_of-self-2 g c =
    let i = c.self.inside in
    let d : DeskView _ = record { core = i.core; seeds = i.trees.items; indices = i.indices; log = i.log; released = i.book.total } in
    let plan = rw (← c.self.view_is) at c.requires.plan in
    let done = c.in_ok-store.ensures in
    let e : Entry = entry_for c.args.planned.block c.args.planned.plan.parent None in
    let same : stored_in e ≡ planned_entry c.args.planned.plan false =
    ap (λ (b : Header). let x : Stored = record { voted = false; block = b; parent = c.args.planned.plan.parent } in x) (sym c.args.planned.of_block) in
    record {
      desk = keeps_stored g.D.Disk.bytes g.D.Disk.images g.N.DeskNaming.committee g.N.DeskNaming.replica g.N.DeskNaming.opening d c.self.invariant.desk c.store.new.core c.store.new.log i.indices i.book.total c.args.planned.plan false e
          plan c.requires.act same done.is_entry done.adds done.genesis done.durable done.tells done.headers done.same_genesis done.state
          (λ n long r. rising_raise n i.indices.mark i.log.entries e long refl r) (λ long. vote_same _ i.log.steps (planned_entry c.args.planned.plan false) long refl ∙ c.self.invariant.desk.list.counted) refl;
      replica_is = c.self.invariant.replica_is;
      chain_is = c.self.invariant.chain_is;
      opened_is = c.self.invariant.opened_is;
    }

pub returns-clause-stored : goal.returns-clause-stored
returns-clause-stored g c =
    let done = c.in_ok-store.ensures in
    rw (← c.self.view_is) (record {
      adds = done.adds;
      running = done.running;
      one_genesis = done.genesis;
      durable = done.durable;
      headers = done.headers;
      genesis = done.same_genesis;
      state = done.state;
      seeds = refl;
    })
