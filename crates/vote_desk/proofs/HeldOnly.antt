-- A block that is held, whatever the core plans for it.
use Rattle.std.proofs.Common.{◌≡◌, inl, ℕ, List, IfErr, IfSome, OnErr, Result, Ok, Err, refl, ap, subst, sym, ◌∙◌, arith}
use Rattle.blocks.specs.Headers.{Header}
use Rattle.blocks.specs.Replica.{Stored}
use Rattle.replica_core.specs.Cores.{IsSameCore}
use Rattle.replica_core.specs.Plans.{HoldsAlso, IsPlan}
use Rattle.replica_core.specs.declared.plan.Plan.{Plan}
use Rattle.key_index_store.specs.State.{IndexState}
use Rattle.stable_log.specs.Crash.{LeavesOnly}
use Rattle.stable_log.specs.declared.disk.Disk.{Ghosts}
use Rattle.stable_log.proofs.Told.{some_if, if_some}
use Rattle.vote_log.specs.Logs.{LeavesEntries, LogState, StandsForEntries}
use Rattle.vote_desk.specs.declared.desk_error.DeskError.{DeskError}
use Rattle.vote_desk.specs.declared.desk_error.DeskError.TheVariants as error
use Rattle.vote_desk.specs.declared.reply.Answer.TheVariants.{Held}
use Rattle.vote_desk.specs.declared.reply.Reply.{Reply}
use Rattle.vote_desk.specs.Deliveries.{RunsOn}
use Rattle.vote_desk.specs.DeskRefusals.{IsPlanRefusal, IsRunning}
use Rattle.vote_desk.specs.Desks.{DeskView, KeepsDesk, KeepsEntries}
use Rattle.vote_desk.specs.Holding.{IsHeldOnly, IsHoldRefusal, IsStill, IsUnmoved, RefusesHold, LeavesListOnly}
use Rattle.vote_desk.specs.Stays.{IsImageAfter, stay_in}
use Rattle.vote_desk.proofs.Plans.{planned_back}
use Rattle.vote_desk.proofs.Stays.{image_found}

-- one call after the other
pub still_on : {D : Type 0} (old mid new : DeskView D) → IsStill old mid → IsStill mid new → IsStill old new
still_on old mid new one other = record {
  seeds = other.seeds ∙ one.seeds;
  indices = other.indices ∙ one.indices;
  log = other.log ∙ one.log;
  released = other.released ∙ one.released;
}

pub held_only : {D : Type 0} (old mid new : DeskView D) (plan : Plan) (b : Header) → IsSameCore old.core mid.core → IsPlan mid.core plan → plan.block ≡ b
    → HoldsAlso mid.core.headers new.core.headers plan.block → new.core.genesis ≡ mid.core.genesis → new.core.state ≡ mid.core.state → IsStill old mid → IsStill mid new
    → IsHeldOnly b (record { act = Held; committed = plan.committed }) old new
held_only old mid new plan b same k is holds genesis state one other =
    let planned = planned_back old.core mid.core plan b same k is in
    record {
      parent = plan.parent;
      below = k.below;
      chain = planned.chain;
      act = refl;
      committed = planned.committed;
      takes = record { allowed = planned.chain.is_chain; leaves = state ∙ same.state };
      holds = subst (λ (h : Header). HoldsAlso old.core.headers new.core.headers h) is (subst (λ (hs : List Header). HoldsAlso hs new.core.headers plan.block) same.headers holds);
      genesis = genesis ∙ same.genesis;
      still = still_on old mid new one other;
    }

-- what is refused before the core plans is refused before there is room
pub hold_refused : {D : Type 0} (d : DeskView D) (b : Header) (e : DeskError) → IsHoldRefusal d b e → IsPlanRefusal d b e
hold_refused d b error.Memory r = (r.running, r.admissible)
hold_refused d b error.Stopped r = r
hold_refused d b (error.Core refusal) r = r
hold_refused d b error.KeySpent r = absurd r
hold_refused d b error.LogFull r = absurd r
hold_refused d b error.Device r = absurd r
hold_refused d b error.ReceiptMismatch r = absurd r

module _ {D : Type 0} (disk : Ghosts D) (old new : DeskView D) where
  -- it runs on
  pub runs_still : IsStill old new → IsRunning old → IfSome (disk.bytes old.log.disk) (λ _. LeavesEntries (disk.images old.log.disk) old.log.entries) → RunsOn disk old new
  runs_still still running durable = record {
    running = record {
      log = ap (λ (l : LogState D). l.stopped) still.log ∙ running.log;
      indices = ap (λ (i : IndexState D). i.stopped) still.indices ∙ running.indices;
    };
    no_failure = record {
      log = ap (λ (l : LogState D). disk.failed l.disk) still.log;
      indices = ap (λ (i : IndexState D). disk.failed i.disk) still.indices;
    };
    durable = subst (λ (l : LogState D). IfSome (disk.bytes old.log.disk) (λ _. LeavesEntries (disk.images l.disk) l.entries)) (sym still.log) durable;
  }

  -- the list stays where the log does
  pub list_still : (committee : List ℕ) (opening : List Stored) → new.log ≡ old.log → IfSome (disk.bytes old.log.disk) (λ _. LeavesListOnly disk committee opening old old)
      → IfSome (disk.bytes old.log.disk) (λ _. LeavesListOnly disk committee opening old new)
  list_still committee opening is found =
      some_if (disk.bytes old.log.disk) (λ _. LeavesListOnly disk committee opening old new) (λ bs told.
      let here = if_some (disk.bytes old.log.disk) (λ _. LeavesListOnly disk committee opening old old) bs found told in
      record {
        any_moment = λ running. subst (λ (l : LogState D). LeavesOnly disk.moment disk.images_since old.log.disk l.disk (λ image. StandsForEntries image old.log.entries)) (sym is) (here.any_moment running);
        finds = here.finds;
      })

  -- what is refused under a lock
  pub refuses_hold : (b : Header) (r : Result Reply DeskError) → IfErr r (IsHoldRefusal old b) → OnErr r (IsUnmoved old new) → IfErr r (λ e. RefusesHold b e old new)
  refuses_hold b (Ok reply) refused left = tt
  refuses_hold b (Err e) refused left = record { refused = refused; left = left }

-- while nothing is called
pub list_found : {D : Type 0} (disk : Ghosts D) (committee : List ℕ) (replica : ℕ) (opening : List Stored) (d : DeskView D) → KeepsDesk disk.bytes disk.images committee replica opening d
    → ((image : List ℕ) → disk.images_since d.log.disk (disk.moment d.log.disk) image → disk.images d.log.disk image) → IfSome (disk.bytes d.log.disk) (λ _. LeavesListOnly disk committee opening d d)
list_found disk committee replica opening d keeps only_now =
    some_if (disk.bytes d.log.disk) (λ _. LeavesListOnly disk committee opening d d) (λ bs told.
    let k = if_some (disk.bytes d.log.disk) (λ _. KeepsEntries (disk.images d.log.disk) opening d.core.headers d.indices.mark d.log) bs keeps.entries told in
    record {
      any_moment = λ running. record {
        later = omega arith;
        each = λ image left. k.durable running.log image (only_now image left);
        before = λ t image le left. inl left;
      };
      finds = λ image stands. subst (λ (g : Header). IsImageAfter g (stay_in opening d) image) (keeps.list.one_genesis ∙ keeps.genesis) (image_found d.core.headers opening d.log image k.listed (inl stands));
    })
