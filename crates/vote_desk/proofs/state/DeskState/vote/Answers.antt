use Rattle.std.proofs.Common.{◌≡◌, ◌≤◌, ◌+◌, ◌++◌, ◌∷◌, [], List, inl, drop, ℕ, true, Err, Some, refl, sym, ap, subst, ◌∙◌, arith}
use Rattle.lmots.specs.declared.keys.PrivateSeed.{PrivateSeed}
use Rattle.blocks.specs.Headers.{Header}
use Rattle.blocks.specs.Genesis.{chain_id_of}
use Rattle.certificates.specs.declared.vote.SignedVote.{SignedVote}
use Rattle.blocks.specs.Replica.{Stored}
use Rattle.blocks.specs.Replay.{IsLegal}
use Rattle.log_format.specs.EntryText.{Entry, IsEntry, stored_in}
use Rattle.log_format.specs.declared.entry.KeyedSignature.{KeyedSignature}
use Rattle.vote_log.specs.Logs.{IsLogBeforeOrAfter}
use Rattle.vote_desk.specs.declared.desk_error.DeskError.{DeskError}
use Rattle.vote_desk.specs.Deliveries.{IsLeftWith, entry_for, planned_entry, signed_in, vote_under}
use Rattle.vote_desk.specs.Desks.{AreRising, DeskView, indices_in}
use Rattle.vote_desk.proofs.Lists.{rising_vote, vote_more}
use Rattle.vote_desk.proofs.Steps.{keeps_drawn, keeps_refused, keeps_stored, plan_is_legal, unmoved, left_with, weaker}
use Rattle.vote_desk.proofs.state.DeskState.vote.Goals as goal

pub returns-in_err-reserve-clause-any_moment : goal.returns-in_err-reserve-clause-any_moment
returns-in_err-reserve-clause-any_moment g c =
    let i = c.self.inside in
    let d : DeskView _ = record { core = i.core; seeds = i.trees.items; indices = i.indices; log = i.log; released = i.book.total } in
    let wanted = signed_in (vote_under (chain_id_of g.N.DeskNaming.committee) g.N.DeskNaming.replica i.trees.items i.indices.mark c.args.planned.plan.block) in
    let entry : Entry = entry_for c.args.planned.block c.args.planned.plan.parent (Some wanted) in
    rw (← c.self.view_is)
    (unmoved g.D.Disk.bytes g.D.Disk.images g.N.DeskNaming.committee g.N.DeskNaming.replica g.N.DeskNaming.opening d c.self.invariant.desk g.D.Disk.moment g.D.Disk.images_since
    (IsLeftWith i.log.entries entry) (g.met.D.Disk.only_now i.log.disk) (rw (← c.self.view_is) at c.requires.running.log) (λ image s. inl s))

pub returns-in_err-vote-clause-any_moment : goal.returns-in_err-vote-clause-any_moment
returns-in_err-vote-clause-any_moment g c =
    let i = c.self.inside in
    let d : DeskView _ = record { core = i.core; seeds = i.trees.items; indices = i.indices; log = i.log; released = i.book.total } in
    let wanted = signed_in (vote_under (chain_id_of g.N.DeskNaming.committee) g.N.DeskNaming.replica i.trees.items i.indices.mark c.args.planned.plan.block) in
    let entry : Entry = entry_for c.args.planned.block c.args.planned.plan.parent (Some wanted) in
    rw (← c.self.view_is)
    (unmoved g.D.Disk.bytes g.D.Disk.images g.N.DeskNaming.committee g.N.DeskNaming.replica g.N.DeskNaming.opening d c.self.invariant.desk g.D.Disk.moment g.D.Disk.images_since
    (IsLeftWith i.log.entries entry) (g.met.D.Disk.only_now i.log.disk) (rw (← c.self.view_is) at c.requires.running.log) (λ image s. inl s))

pub store-requires-clause-legal : goal.store-requires-clause-legal
store-requires-clause-legal g c =
    let i = c.self.inside in
    let d : DeskView _ = record { core = i.core; seeds = i.trees.items; indices = i.indices; log = i.log; released = i.book.total } in
    let plan = rw (← c.self.view_is) at c.requires.plan in
    let legal = plan_is_legal g.D.Disk.bytes g.D.Disk.images g.N.DeskNaming.committee g.N.DeskNaming.replica g.N.DeskNaming.opening d c.self.invariant.desk c.args.planned.plan true plan c.requires.act in
    let same : planned_entry c.args.planned.plan true ≡ stored_in (entry_for c.args.planned.block c.args.planned.plan.parent (Some (signed_in c.in_ok-vote.vote))) =
    ap (λ (b : Header). let x : Stored = record { voted = true; block = b; parent = c.args.planned.plan.parent } in x) c.args.planned.of_block in
    subst (λ (x : Stored). IsLegal i.log.genesis (i.log.steps ++ x ∷ [])) same legal

pub invariant_of-self-in_err-store : goal.invariant_of-self-in_err-store
invariant_of-self-in_err-store g c =
    let i = c.self.inside in
    let d : DeskView _ = record { core = i.core; seeds = i.trees.items; indices = i.indices; log = i.log; released = i.book.total } in
    let drawn : DeskView _ = record { core = i.core; seeds = i.trees.items; indices = c.draw.new.indices; log = i.log; released = i.book.total } in
    let up : i.indices.mark ≤ c.draw.new.indices.mark = omega (arith, c.in_ok-vote.ensures.drawn) in
    let keeps = keeps_drawn g.D.Disk.bytes g.D.Disk.images g.N.DeskNaming.committee g.N.DeskNaming.replica g.N.DeskNaming.opening d c.self.invariant.desk c.draw.new.indices up c.in_ok-vote.ensures.keys in
    let plan = rw (← c.self.view_is) at c.requires.plan in
    let refused = c.in_err-store.ensures in
    let e : Entry = entry_for c.args.planned.block c.args.planned.plan.parent (Some (signed_in c.in_ok-vote.vote)) in
    let same : stored_in e ≡ planned_entry c.args.planned.plan true =
    ap (λ (b : Header). let x : Stored = record { voted = true; block = b; parent = c.args.planned.plan.parent } in x) (sym c.args.planned.of_block) in
    record {
      desk = keeps_refused g.D.Disk.bytes g.D.Disk.images g.N.DeskNaming.committee g.N.DeskNaming.replica g.N.DeskNaming.opening drawn keeps c.store.new.core c.store.new.log c.args.planned.plan true e c.in_err-store.field-0.0 g.D.Disk.moment g.D.Disk.images_since
          plan c.requires.act same refused.is_entry g.met.D.Disk.counts_now refused.core refused.genesis refused.tells (λ e. refused.device (ap (λ (x : DeskError). Err x) e)) refused.err refused.any_moment;
      replica_is = c.self.invariant.replica_is;
      chain_is = c.self.invariant.chain_is;
      opened_is = c.self.invariant.opened_is;
    }

pub invariant_of-self-2 : goal.invariant_of-self-2
invariant_of-self-2 g c =
    let i = c.self.inside in
    let d : DeskView _ = record { core = i.core; seeds = i.trees.items; indices = i.indices; log = i.log; released = i.book.total } in
    let plan = rw (← c.self.view_is) at c.requires.plan in
    let done = c.in_ok-store.ensures in
    let own = signed_in c.in_ok-vote.vote in
    let e : Entry = entry_for c.args.planned.block c.args.planned.plan.parent (Some own) in
    let same : stored_in e ≡ planned_entry c.args.planned.plan true =
    ap (λ (b : Header). let x : Stored = record { voted = true; block = b; parent = c.args.planned.plan.parent } in x) (sym c.args.planned.of_block) in
    let signed = c.in_ok-vote.ensures in
    record {
      desk = keeps_stored g.D.Disk.bytes g.D.Disk.images g.N.DeskNaming.committee g.N.DeskNaming.replica g.N.DeskNaming.opening d c.self.invariant.desk c.store.new.core c.store.new.log c.draw.new.indices c.release.new.book.total c.args.planned.plan true e
          plan c.requires.act same done.is_entry done.adds done.genesis done.durable done.tells done.headers done.same_genesis done.state
          (λ n long r. subst (λ (m : ℕ). AreRising m (indices_in (drop n (i.log.entries ++ e ∷ [])))) (sym signed.drawn) (rising_vote n i.indices.mark i.log.entries e own long refl signed.index r))
          (λ long. vote_more _ i.log.steps (planned_entry c.args.planned.plan true) long refl ∙ ap (λ (n : ℕ). n + 1) c.self.invariant.desk.list.counted ∙ sym c.release.ensures.total) signed.keys;
      replica_is = c.self.invariant.replica_is;
      chain_is = c.self.invariant.chain_is;
      opened_is = c.self.invariant.opened_is;
    }

pub returns-clause-stored : goal.returns-clause-stored
returns-clause-stored g c =
    let done = c.in_ok-store.ensures in
    rw (← c.self.view_is) (record {
      adds = done.adds;
      running = done.running;
      one_genesis = done.genesis;
      durable = done.durable;
      headers = done.headers;
      genesis = done.same_genesis;
      state = done.state;
      seeds = refl;
    })

pub returns-in_err-store-clause-any_moment : goal.returns-in_err-store-clause-any_moment
returns-in_err-store-clause-any_moment g c =
    let i = c.self.inside in
    let wanted = signed_in (vote_under (chain_id_of g.N.DeskNaming.committee) g.N.DeskNaming.replica i.trees.items i.indices.mark c.args.planned.plan.block) in
    let entry : Entry = entry_for c.args.planned.block c.args.planned.plan.parent (Some wanted) in
    let same : signed_in c.in_ok-vote.vote ≡ wanted =
    ap (λ (v : SignedVote). signed_in v) c.in_ok-vote.ensures.value
    ∙ ap (λ (t : List PrivateSeed). signed_in (vote_under i.chain i.replica t i.indices.mark c.args.planned.plan.block)) c.deref.ensures.value
    ∙ ap (λ (k : List ℕ). signed_in (vote_under k i.replica i.trees.items i.indices.mark c.args.planned.plan.block)) c.self.invariant.chain_is
    ∙ ap (λ (n : ℕ). signed_in (vote_under (chain_id_of g.N.DeskNaming.committee) n i.trees.items i.indices.mark c.args.planned.plan.block)) c.self.invariant.replica_is in
    let left : (signed : KeyedSignature) → signed ≡ wanted → IsEntry (entry_for c.args.planned.block c.args.planned.plan.parent (Some signed)) → (image : List ℕ) → IsLogBeforeOrAfter i.log.entries (entry_for c.args.planned.block c.args.planned.plan.parent (Some signed)) image → IsLeftWith i.log.entries entry image =
    λ signed is is_entry image left. subst (λ (x : KeyedSignature). IsLeftWith i.log.entries (entry_for c.args.planned.block c.args.planned.plan.parent (Some x)) image) is (left_with i.log.entries (entry_for c.args.planned.block c.args.planned.plan.parent (Some signed)) is_entry image left) in
    rw (← c.self.view_is)
    (weaker (g.D.Disk.bytes i.log.disk) g.D.Disk.moment g.D.Disk.images_since i.log.disk c.store.new.log.disk (IsLogBeforeOrAfter i.log.entries (entry_for c.args.planned.block c.args.planned.plan.parent (Some (signed_in c.in_ok-vote.vote)))) (IsLeftWith i.log.entries entry)
    (left (signed_in c.in_ok-vote.vote) same c.in_err-store.ensures.is_entry) c.in_err-store.ensures.any_moment)

pub returns-clause-any_moment : goal.returns-clause-any_moment
returns-clause-any_moment g c =
    let i = c.self.inside in
    let wanted = signed_in (vote_under (chain_id_of g.N.DeskNaming.committee) g.N.DeskNaming.replica i.trees.items i.indices.mark c.args.planned.plan.block) in
    let entry : Entry = entry_for c.args.planned.block c.args.planned.plan.parent (Some wanted) in
    let same : signed_in c.in_ok-vote.vote ≡ wanted =
    ap (λ (v : SignedVote). signed_in v) c.in_ok-vote.ensures.value
    ∙ ap (λ (t : List PrivateSeed). signed_in (vote_under i.chain i.replica t i.indices.mark c.args.planned.plan.block)) c.deref.ensures.value
    ∙ ap (λ (k : List ℕ). signed_in (vote_under k i.replica i.trees.items i.indices.mark c.args.planned.plan.block)) c.self.invariant.chain_is
    ∙ ap (λ (n : ℕ). signed_in (vote_under (chain_id_of g.N.DeskNaming.committee) n i.trees.items i.indices.mark c.args.planned.plan.block)) c.self.invariant.replica_is in
    let left : (signed : KeyedSignature) → signed ≡ wanted → IsEntry (entry_for c.args.planned.block c.args.planned.plan.parent (Some signed)) → (image : List ℕ) → IsLogBeforeOrAfter i.log.entries (entry_for c.args.planned.block c.args.planned.plan.parent (Some signed)) image → IsLeftWith i.log.entries entry image =
    λ signed is is_entry image left. subst (λ (x : KeyedSignature). IsLeftWith i.log.entries (entry_for c.args.planned.block c.args.planned.plan.parent (Some x)) image) is (left_with i.log.entries (entry_for c.args.planned.block c.args.planned.plan.parent (Some signed)) is_entry image left) in
    rw (← c.self.view_is)
    (weaker (g.D.Disk.bytes i.log.disk) g.D.Disk.moment g.D.Disk.images_since i.log.disk c.store.new.log.disk (IsLogBeforeOrAfter i.log.entries (entry_for c.args.planned.block c.args.planned.plan.parent (Some (signed_in c.in_ok-vote.vote)))) (IsLeftWith i.log.entries entry)
    (left (signed_in c.in_ok-vote.vote) same c.in_ok-store.ensures.is_entry) c.in_ok-store.ensures.any_moment)
