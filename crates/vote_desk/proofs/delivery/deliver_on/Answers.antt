use Rattle.std.proofs.Common.{◌≡◌, ◌+◌, inl, inr, ℕ, IfSome, None, Some, refl, sym, ap, subst, ◌∙◌, arith, rules}
use Rattle.std.proofs.lemmas.Result.{err_from_is_err_and}
use Rattle.blocks.specs.Headers.{Header, header_id}
use Rattle.log_format.specs.EntryText.{stored_in}
use Rattle.replica_core.specs.declared.plan.Act.{Act}
use Rattle.replica_core.specs.declared.plan.Act.TheVariants as act
use Rattle.stable_log.specs.Crash.{LeavesOnly}
use Rattle.key_index_store.specs.State.{IndexState}
use Rattle.vote_log.specs.Logs.{AddsEntry, IsLogBeforeOrAfter, LeavesEntries, LogState, StandsForEntries}
use Rattle.vote_desk.specs.declared.reply.Answer.TheVariants.{Voted, Raised, Held}
use Rattle.vote_desk.specs.DeskRefusals.{HasRoomTo}
use Rattle.blocks.specs.Genesis.{chain_id_of}
use Rattle.vote_desk.specs.Deliveries.{BoundsIndices, signed_in, vote_under, CommitsIn, IsLeftBy, IsLeftWith, entry_for}
use Rattle.vote_desk.proofs.Delivered.{asks_for, committed_in, delivered, durable_now, plan_is_of, raised_image, same_signature, stands, storage_refused, voted_image, votes}
use Rattle.certificates.specs.declared.vote.SignedVote.{SignedVote}
use Rattle.vote_desk.proofs.Moments.{survived}
use Rattle.vote_desk.proofs.Steps.{weaker}
use Rattle.vote_desk.proofs.delivery.deliver_on.Goals as goal

-- ---- a block that is refused

pub returns-in_err-planned-clause-any_moment : goal.returns-in_err-planned-clause-any_moment
returns-in_err-planned-clause-any_moment g c =
    let o = c.args.state.now in
    survived g.D.Disk g.N.DeskNaming.committee g.N.DeskNaming.replica c.args.block o c.plan.new.self g.N.DeskNaming.opening (λ running.
    weaker (g.D.Disk.bytes o.log.disk) g.D.Disk.moment g.D.Disk.images_since o.log.disk c.plan.new.self.log.disk (λ image. StandsForEntries image o.log.entries) (IsLeftBy g.N.DeskNaming.committee g.N.DeskNaming.replica o c.args.block) (λ image s. inl s) (c.plan.ensures.unmoved running))
    c.crash_is_found.ensures

pub returns-in_err-planned-clause-not_again : goal.returns-in_err-planned-clause-not_again
returns-in_err-planned-clause-not_again g c =
    let o = c.args.state.now in
    subst (λ (i : IndexState _). IfSome (g.D.Disk.bytes o.indices.disk) (λ _. BoundsIndices g.D.Disk o.indices i)) (sym c.plan.ensures.same.1) c.indices_are_bounded.ensures

-- ---- a vote

pub returns-in-Vote-clause-ok : goal.returns-in-Vote-clause-ok
returns-in-Vote-clause-ok g c =
    let o = c.args.state.now in
    let m = c.plan.new.self in
    let n = c.vote.new.self in
    let b = c.in_ok-planned.planned in
    let p = b.plan in
    let e = c.in_ok-planned.ensures in
    let r = c.in_ok-receipt-in-Vote.receipt in
    let v = c.in_ok-receipt-in-Vote.ensures in
    rw (← e.block) (delivered g.D.Disk.bytes g.N.DeskNaming.committee g.N.DeskNaming.replica o m n b.block p (Voted r) e.core e.plan b.of_block c.in-Vote.is v.stored.headers v.stored.genesis v.stored.state (v.stored.seeds ∙ e.same.0)
    (votes g.D.Disk.bytes g.N.DeskNaming.committee g.N.DeskNaming.replica o m n b.block p r e.same.0 e.same.1 e.same.2 b.of_block v.number v.vote v.index v.good v.stored.adds v.drawn)
    (v.released ∙ ap (λ (k : ℕ). k + 1) e.same.3))

pub returns-in-Vote-clause-reply : goal.returns-in-Vote-clause-reply
returns-in-Vote-clause-reply g c =
    let e = c.in_ok-planned.ensures in
    let is = plan_is_of c.in_ok-planned.planned c.args.block e.block in
    let v = c.in_ok-receipt-in-Vote.ensures in
    record {
      answer = (
        ap (λ (x : SignedVote). x.replica) v.vote,
        ap (λ (x : SignedVote). x.view) v.vote ∙ ap (λ (h : Header). h.view) is,
        ap (λ (x : SignedVote). x.id) v.vote ∙ ap header_id is,
        v.good,
      );
      committed = subst (λ (h : Header). IfSome c.in_ok-planned.planned.plan.committed (CommitsIn h c.args.block.header)) e.chain
          (committed_in c.args.state.now.core c.plan.new.self.core c.in_ok-planned.planned.plan c.args.block.header e.core e.plan is);
    }

pub returns-in-Vote-clause-stands : goal.returns-in-Vote-clause-stands
returns-in-Vote-clause-stands g c =
    let b = c.in_ok-planned.planned in
    let r = c.in_ok-receipt-in-Vote.receipt in
    let v = c.in_ok-receipt-in-Vote.ensures in
    stands c.plan.new.self.log.steps c.vote.new.self.log.steps (stored_in (entry_for b.block b.plan.parent (Some (signed_in r.vote)))) r v.stored.adds.steps v.number refl
    (ap (λ (x : SignedVote). x.view) v.vote ∙ ap (λ (h : Header). h.view) b.of_block)
    (ap (λ (x : SignedVote). x.id) v.vote ∙ ap header_id b.of_block)

pub returns-in-Vote-clause-durable : goal.returns-in-Vote-clause-durable
returns-in-Vote-clause-durable g c = record {
  running = search rules;
  no_failure = search rules;
  durable = durable_now g.D.Disk.bytes g.D.Disk.images c.args.state.now c.plan.new.self c.vote.new.self c.in_ok-planned.planned.plan _ c.in_ok-planned.ensures.same.2 c.in_ok-receipt-in-Vote.ensures.stored;
}

pub returns-in-Vote-clause-not_again : goal.returns-in-Vote-clause-not_again
returns-in-Vote-clause-not_again g c =
    subst (λ (i : IndexState _). IfSome (g.D.Disk.bytes i.disk) (λ _. BoundsIndices g.D.Disk i c.vote.new.self.indices)) c.in_ok-planned.ensures.same.1 c.vote.ensures.not_again

pub returns-in-Vote-clause-any_moment : goal.returns-in-Vote-clause-any_moment
returns-in-Vote-clause-any_moment g c =
    let o = c.args.state.now in
    let e = c.in_ok-planned.ensures in
    let n = c.vote.new.self in
    let m = c.plan.new.self in
    let b = c.in_ok-planned.planned in
    let p = b.plan in
    let signed = signed_in (vote_under (chain_id_of g.N.DeskNaming.committee) g.N.DeskNaming.replica m.seeds m.indices.mark p.block) in
    let entry = entry_for b.block p.parent (Some signed) in
    survived g.D.Disk g.N.DeskNaming.committee g.N.DeskNaming.replica c.args.block o n g.N.DeskNaming.opening (rw (← e.block) (λ running.
    weaker (g.D.Disk.bytes o.log.disk) g.D.Disk.moment g.D.Disk.images_since o.log.disk n.log.disk (IsLeftWith o.log.entries entry) (IsLeftBy g.N.DeskNaming.committee g.N.DeskNaming.replica o b.block)
    (voted_image g.N.DeskNaming.committee g.N.DeskNaming.replica o m.core b.block p signed e.core e.plan b.of_block c.in-Vote.is e.legal (same_signature g.N.DeskNaming.committee g.N.DeskNaming.replica o m p.block b.block.header e.same.0 e.same.1 b.of_block))
    (subst (λ (l : LogState _). IfSome (g.D.Disk.bytes l.disk) (λ _. LeavesOnly g.D.Disk.moment g.D.Disk.images_since l.disk n.log.disk (IsLeftWith l.entries entry))) e.same.2 c.in_ok-receipt-in-Vote.ensures.any_moment)))
    c.crash_is_found.ensures

pub returns-in_err-receipt-in-Vote-clause-not_again : goal.returns-in_err-receipt-in-Vote-clause-not_again
returns-in_err-receipt-in-Vote-clause-not_again g c =
    subst (λ (i : IndexState _). IfSome (g.D.Disk.bytes i.disk) (λ _. BoundsIndices g.D.Disk i c.vote.new.self.indices)) c.in_ok-planned.ensures.same.1 c.vote.ensures.not_again

pub returns-in_err-receipt-in-Vote-clause-any_moment :
    goal.returns-in_err-receipt-in-Vote-clause-any_moment
returns-in_err-receipt-in-Vote-clause-any_moment g c =
    let o = c.args.state.now in
    let e = c.in_ok-planned.ensures in
    let n = c.vote.new.self in
    let m = c.plan.new.self in
    let b = c.in_ok-planned.planned in
    let p = b.plan in
    let signed = signed_in (vote_under (chain_id_of g.N.DeskNaming.committee) g.N.DeskNaming.replica m.seeds m.indices.mark p.block) in
    let entry = entry_for b.block p.parent (Some signed) in
    survived g.D.Disk g.N.DeskNaming.committee g.N.DeskNaming.replica c.args.block o n g.N.DeskNaming.opening (rw (← e.block) (λ running.
    weaker (g.D.Disk.bytes o.log.disk) g.D.Disk.moment g.D.Disk.images_since o.log.disk n.log.disk (IsLeftWith o.log.entries entry) (IsLeftBy g.N.DeskNaming.committee g.N.DeskNaming.replica o b.block)
    (voted_image g.N.DeskNaming.committee g.N.DeskNaming.replica o m.core b.block p signed e.core e.plan b.of_block c.in-Vote.is e.legal (same_signature g.N.DeskNaming.committee g.N.DeskNaming.replica o m p.block b.block.header e.same.0 e.same.1 b.of_block))
    (subst (λ (l : LogState _). IfSome (g.D.Disk.bytes l.disk) (λ _. LeavesOnly g.D.Disk.moment g.D.Disk.images_since l.disk n.log.disk (IsLeftWith l.entries entry))) e.same.2 c.in_err-receipt-in-Vote.ensures.any_moment)))
    c.crash_is_found.ensures

pub returns-in_err-receipt-in-Vote-clause-first_refusal :
    goal.returns-in_err-receipt-in-Vote-clause-first_refusal
returns-in_err-receipt-in-Vote-clause-first_refusal g c =
    let o = c.args.state.now in
    let m = c.plan.new.self in
    let e = c.in_ok-planned.ensures in
    let is = plan_is_of c.in_ok-planned.planned c.args.block e.block in
    let asks = asks_for o m.core c.in_ok-planned.planned.plan c.args.block.header act.Vote e.running e.passes e.core e.plan is c.in-Vote.is in
    let room = subst (λ (a : Act). HasRoomTo o.log o.indices a) c.in-Vote.is e.room in
    let p = err_from_is_err_and c.from_residual-in_err-receipt-in-Vote.result c.from_residual-in_err-receipt-in-Vote.ensures.1 in
    rw (p.1, p.2) (storage_refused o c.args.block.header c.in_err-receipt-in-Vote.field-0.0 e.running e.passes (inl (asks, room)) c.in_err-receipt-in-Vote.ensures.first_refusal)

-- ---- a raised lock

pub returns-in-Raise-clause-ok : goal.returns-in-Raise-clause-ok
returns-in-Raise-clause-ok g c =
    let o = c.args.state.now in
    let m = c.plan.new.self in
    let n = c.raise.new.self in
    let b = c.in_ok-planned.planned in
    let p = b.plan in
    let e = c.in_ok-planned.ensures in
    let v = c.in_ok-raise-in-Raise.ensures in
    rw (← e.block) (delivered g.D.Disk.bytes g.N.DeskNaming.committee g.N.DeskNaming.replica o m n b.block p Raised e.core e.plan b.of_block c.in-Raise.is v.stored.headers v.stored.genesis v.stored.state (v.stored.seeds ∙ e.same.0)
    (record {
      adds = subst (λ (l : LogState _). AddsEntry g.D.Disk.bytes l n.log (entry_for b.block p.parent None)) e.same.2 v.stored.adds;
      undrawn = v.same.0 ∙ e.same.1;
    })
    (let k : n.released ≡ o.released = v.same.1 ∙ e.same.3 in omega arith))

pub returns-in-Raise-clause-reply : goal.returns-in-Raise-clause-reply
returns-in-Raise-clause-reply g c =
    let e = c.in_ok-planned.ensures in
    let is = plan_is_of c.in_ok-planned.planned c.args.block e.block in
    record {
      answer = tt;
      committed = subst (λ (h : Header). IfSome c.in_ok-planned.planned.plan.committed (CommitsIn h c.args.block.header)) e.chain
          (committed_in c.args.state.now.core c.plan.new.self.core c.in_ok-planned.planned.plan c.args.block.header e.core e.plan is);
    }

pub returns-in-Raise-clause-durable : goal.returns-in-Raise-clause-durable
returns-in-Raise-clause-durable g c = record {
  running = search rules;
  no_failure = search rules;
  durable = durable_now g.D.Disk.bytes g.D.Disk.images c.args.state.now c.plan.new.self c.raise.new.self c.in_ok-planned.planned.plan _ c.in_ok-planned.ensures.same.2 c.in_ok-raise-in-Raise.ensures.stored;
}

pub returns-in-Raise-clause-not_again : goal.returns-in-Raise-clause-not_again
returns-in-Raise-clause-not_again g c =
    let o = c.args.state.now in
    subst (λ (i : IndexState _). IfSome (g.D.Disk.bytes o.indices.disk) (λ _. BoundsIndices g.D.Disk o.indices i)) (sym (c.raise.ensures.same.0 ∙ c.in_ok-planned.ensures.same.1)) c.indices_are_bounded.ensures

pub returns-in-Raise-clause-any_moment : goal.returns-in-Raise-clause-any_moment
returns-in-Raise-clause-any_moment g c =
    let o = c.args.state.now in
    let e = c.in_ok-planned.ensures in
    let n = c.raise.new.self in
    let b = c.in_ok-planned.planned in
    let entry = entry_for b.block b.plan.parent None in
    survived g.D.Disk g.N.DeskNaming.committee g.N.DeskNaming.replica c.args.block o n g.N.DeskNaming.opening (rw (← e.block) (λ running.
    weaker (g.D.Disk.bytes o.log.disk) g.D.Disk.moment g.D.Disk.images_since o.log.disk n.log.disk (IsLogBeforeOrAfter o.log.entries entry) (IsLeftBy g.N.DeskNaming.committee g.N.DeskNaming.replica o b.block)
    (raised_image g.N.DeskNaming.committee g.N.DeskNaming.replica o c.plan.new.self.core b.block b.plan e.core e.plan b.of_block c.in-Raise.is e.legal c.raise.ensures.is_entry)
    (subst (λ (l : LogState _). IfSome (g.D.Disk.bytes l.disk) (λ _. LeavesOnly g.D.Disk.moment g.D.Disk.images_since l.disk n.log.disk (IsLogBeforeOrAfter l.entries entry))) e.same.2 c.in_ok-raise-in-Raise.ensures.any_moment)))
    c.crash_is_found.ensures

pub returns-in_err-raise-in-Raise-clause-not_again : goal.returns-in_err-raise-in-Raise-clause-not_again
returns-in_err-raise-in-Raise-clause-not_again g c =
    let o = c.args.state.now in
    subst (λ (i : IndexState _). IfSome (g.D.Disk.bytes o.indices.disk) (λ _. BoundsIndices g.D.Disk o.indices i)) (sym (c.raise.ensures.same.0 ∙ c.in_ok-planned.ensures.same.1)) c.indices_are_bounded.ensures

pub returns-in_err-raise-in-Raise-clause-any_moment :
    goal.returns-in_err-raise-in-Raise-clause-any_moment
returns-in_err-raise-in-Raise-clause-any_moment g c =
    let o = c.args.state.now in
    let e = c.in_ok-planned.ensures in
    let n = c.raise.new.self in
    let b = c.in_ok-planned.planned in
    let entry = entry_for b.block b.plan.parent None in
    survived g.D.Disk g.N.DeskNaming.committee g.N.DeskNaming.replica c.args.block o n g.N.DeskNaming.opening (rw (← e.block) (λ running.
    weaker (g.D.Disk.bytes o.log.disk) g.D.Disk.moment g.D.Disk.images_since o.log.disk n.log.disk (IsLogBeforeOrAfter o.log.entries entry) (IsLeftBy g.N.DeskNaming.committee g.N.DeskNaming.replica o b.block)
    (raised_image g.N.DeskNaming.committee g.N.DeskNaming.replica o c.plan.new.self.core b.block b.plan e.core e.plan b.of_block c.in-Raise.is e.legal c.raise.ensures.is_entry)
    (subst (λ (l : LogState _). IfSome (g.D.Disk.bytes l.disk) (λ _. LeavesOnly g.D.Disk.moment g.D.Disk.images_since l.disk n.log.disk (IsLogBeforeOrAfter l.entries entry))) e.same.2 c.in_err-raise-in-Raise.ensures.any_moment)))
    c.crash_is_found.ensures

pub returns-in_err-raise-in-Raise-clause-first_refusal :
    goal.returns-in_err-raise-in-Raise-clause-first_refusal
returns-in_err-raise-in-Raise-clause-first_refusal g c =
    let o = c.args.state.now in
    let m = c.plan.new.self in
    let e = c.in_ok-planned.ensures in
    let is = plan_is_of c.in_ok-planned.planned c.args.block e.block in
    let asks = asks_for o m.core c.in_ok-planned.planned.plan c.args.block.header act.Raise e.running e.passes e.core e.plan is c.in-Raise.is in
    let room = subst (λ (a : Act). HasRoomTo o.log o.indices a) c.in-Raise.is e.room in
    let p = err_from_is_err_and c.from_residual-in_err-raise-in-Raise.result c.from_residual-in_err-raise-in-Raise.ensures.1 in
    rw (p.1, p.2) (storage_refused o c.args.block.header c.in_err-raise-in-Raise.field-0.0 e.running e.passes (inr (asks, room)) c.in_err-raise-in-Raise.ensures.first_refusal)

-- ---- a block that is held

pub returns-in-Pass-clause-ok : goal.returns-in-Pass-clause-ok
returns-in-Pass-clause-ok g c =
    let o = c.args.state.now in
    let m = c.plan.new.self in
    let n = c.pass.new.self in
    let p = c.in_ok-planned.planned.plan in
    let e = c.in_ok-planned.ensures in
    let is = plan_is_of c.in_ok-planned.planned c.args.block e.block in
    let v = c.pass.ensures in
    delivered g.D.Disk.bytes g.N.DeskNaming.committee g.N.DeskNaming.replica o m n c.args.block p Held e.core e.plan is c.in-Pass.is v.headers v.genesis v.state (v.same.0 ∙ e.same.0)
    (record { log = v.same.2 ∙ e.same.2; undrawn = v.same.1 ∙ e.same.1 })
    (let k : n.released ≡ o.released = v.same.3 ∙ e.same.3 in omega arith)

pub returns-in-Pass-clause-reply : goal.returns-in-Pass-clause-reply
returns-in-Pass-clause-reply g c =
    let e = c.in_ok-planned.ensures in
    let is = plan_is_of c.in_ok-planned.planned c.args.block e.block in
    record {
      answer = tt;
      committed = subst (λ (h : Header). IfSome c.in_ok-planned.planned.plan.committed (CommitsIn h c.args.block.header)) e.chain
          (committed_in c.args.state.now.core c.plan.new.self.core c.in_ok-planned.planned.plan c.args.block.header e.core e.plan is);
    }

pub returns-in-Pass-clause-durable : goal.returns-in-Pass-clause-durable
returns-in-Pass-clause-durable g c =
    let o = c.args.state.now in
    let e = c.in_ok-planned.ensures in
    record {
      running = search rules;
      no_failure = search rules;
      durable = subst (λ (l : LogState _). IfSome (g.D.Disk.bytes o.log.disk) (λ _. LeavesEntries (g.D.Disk.images l.disk) l.entries)) (sym (c.pass.ensures.same.2 ∙ e.same.2)) e.durable;
    }

pub returns-in-Pass-clause-not_again : goal.returns-in-Pass-clause-not_again
returns-in-Pass-clause-not_again g c =
    let o = c.args.state.now in
    subst (λ (i : IndexState _). IfSome (g.D.Disk.bytes o.indices.disk) (λ _. BoundsIndices g.D.Disk o.indices i)) (sym (c.pass.ensures.same.1 ∙ c.in_ok-planned.ensures.same.1)) c.indices_are_bounded.ensures

pub returns-in-Pass-clause-any_moment : goal.returns-in-Pass-clause-any_moment
returns-in-Pass-clause-any_moment g c =
    let o = c.args.state.now in
    let e = c.in_ok-planned.ensures in
    survived g.D.Disk g.N.DeskNaming.committee g.N.DeskNaming.replica c.args.block o c.pass.new.self g.N.DeskNaming.opening (λ running.
    subst (λ (l : LogState _). IfSome (g.D.Disk.bytes o.log.disk) (λ _. LeavesOnly g.D.Disk.moment g.D.Disk.images_since o.log.disk l.disk (IsLeftBy g.N.DeskNaming.committee g.N.DeskNaming.replica o c.args.block))) (sym c.pass.ensures.same.2)
    (weaker (g.D.Disk.bytes o.log.disk) g.D.Disk.moment g.D.Disk.images_since o.log.disk c.plan.new.self.log.disk (λ image. StandsForEntries image o.log.entries) (IsLeftBy g.N.DeskNaming.committee g.N.DeskNaming.replica o c.args.block) (λ image s. inl s) (e.unmoved running)))
    c.crash_is_found.ensures
