-- What calls say of a desk of which no more is known than what each desk keeps.
use Rattle.std.proofs.Common.{◌≡◌, ◌≢◌, ◌+◌, ◌<◌, ◌≤◌, inl, inr, ℕ, List, IfSome, Result, Ok, Err, IfOk, IfErr, OnErr, OnOk, refl, sym, subst, ◌∙◌, arith, nat_lt, if◌then◌else◌}
use Rattle.std.specs.Prelude.{MatchResult}
use Rattle.std.proofs.lemmas.Bool.{false≢true}
use Rattle.std.proofs.lemmas.Bool.Decides.{nat_tests}
use Rattle.blocks.specs.Genesis.{genesis_of}
use Rattle.blocks.specs.Headers.{Header}
use Rattle.blocks.specs.Replica.{ReplicaState, Stored, timed_out}
use Rattle.certificates.specs.BlockChecks.{CheckedBlock}
use Rattle.replica_core.specs.declared.plan.Act.{Act}
use Rattle.replica_core.specs.declared.plan.Act.TheVariants as act
use Rattle.replica_core.specs.Plans.{IsActOn}
use Rattle.key_index_store.specs.Boundary.{IsBoundedBy, LeavesBoundary}
use Rattle.key_index_store.specs.Indices.{limit_of}
use Rattle.key_index_store.specs.State.{IndexState}
use Rattle.stable_log.specs.Crash.{LeavesOnly}
use Rattle.stable_log.specs.declared.disk.Disk.{Ghosts}
use Rattle.stable_log.proofs.Told.{some_if, if_some}
use Rattle.vote_desk.specs.declared.desk_error.DeskError.{DeskError}
use Rattle.vote_desk.specs.declared.desk_error.DeskError.TheVariants as error
use Rattle.vote_desk.specs.declared.reply.Answer.{Answer}
use Rattle.vote_desk.specs.declared.reply.Answer.TheVariants.{Voted, Raised, Held}
use Rattle.vote_desk.specs.declared.reply.Receipt.{Receipt}
use Rattle.vote_desk.specs.declared.reply.Reply.{Reply}
use Rattle.vote_desk.specs.Deliveries.{BoundsIndices, IsDelivered, IsLeftAfter, IsLeftBy, IsTold, RunsOn, SurvivesCrash, act_of, released_by, with_receipt}
use Rattle.vote_desk.specs.DeskRefusals.{IsDeskRefusal, IsRunning, IsStopped}
use Rattle.vote_desk.specs.Desks.{DeskView, timed_out_at}
use Rattle.vote_desk.specs.SomeDesk.{Refuses, RefusesUnvoted, Replies, SomeDesk, SomeDeskMoves, TimesOut}
use Rattle.vote_desk.specs.Stays.{IsImageAfter, stay_in}

-- ---- some desk

module _ {D T E : Type 0} (IsDesk : DeskView D → Type 0) (old new : DeskView D) where
  pub some_desk : IsDesk old → (Is : T → DeskView D → Type 0) (r : Result T E) → IfOk r (λ x. Is x old) → IfOk r (λ x. SomeDesk IsDesk (Is x))
  some_desk before Is (Ok x) is = record { desk = old; is_desk = before; is = is }
  some_desk before Is (Err e) is = tt

  pub some_ok : IsDesk old → IsDesk new → (Moves : T → DeskView D → DeskView D → Type 0) (r : Result T E) → IfOk r (λ x. Moves x old new) → IfOk r (λ x. SomeDeskMoves IsDesk (Moves x))
  some_ok before later Moves (Ok x) moves = record { old = old; new = new; before = before; later = later; moves = moves }
  some_ok before later Moves (Err e) moves = tt

  pub some_err : IsDesk old → IsDesk new → (Moves : E → DeskView D → DeskView D → Type 0) (r : Result T E) → IfErr r (λ e. Moves e old new) → IfErr r (λ e. SomeDeskMoves IsDesk (Moves e))
  some_err before later Moves (Ok x) moves = tt
  some_err before later Moves (Err e) moves = record { old = old; new = new; before = before; later = later; moves = moves }

module _ {D T : Type 0} (IsDesk : DeskView D → Type 0) (old new : DeskView D) where
  pub times_out : IsDesk old → IsDesk new → (view : ℕ) (r : Result T DeskError) → OnOk r (IsRunning old) → OnOk r (new ≡ timed_out_at old view)
      → OnOk r (SomeDeskMoves IsDesk (TimesOut view))
  times_out before later view (Ok x) running moved = record { old = old; new = new; before = before; later = later; moves = record { running = running; moved = moved } }
  times_out before later view (Err e) running moved = tt

  pub stops : IsDesk old → (r : Result T DeskError) → IfErr r (λ e. (e ≡ error.Stopped) × IsStopped old × (new ≡ old))
      → IfErr r (λ e. (e ≡ error.Stopped) × SomeDesk IsDesk (λ d. IsStopped d))
  stops before (Ok x) stopped = tt
  stops before (Err e) stopped = (stopped.0, record { desk = old; is_desk = before; is = stopped.1 })

-- what an answer is
pub ok_so : {T E : Type 0} (P Q : T → Type 0) (r : Result T E) → IfOk r P → ((x : T) → P x → Q x) → IfOk r Q
ok_so P Q (Ok x) p f = f x p
ok_so P Q (Err e) p f = tt

-- what is refused, with the answer itself
pub refused_so : {T E : Type 0} (P Q : E → Type 0) (r : Result T E) → IfErr r P → ((e : E) → r ≡ Err e → P e → Q e) → IfErr r Q
refused_so P Q (Ok x) p f = tt
refused_so P Q (Err e) p f = f e refl p

-- ---- deliveries

module _ {D : Type 0} (disk : Ghosts D) (committee : List ℕ) (replica : ℕ) (b : CheckedBlock) (old new : DeskView D) where
  pub replies : (r : Result Reply DeskError) → IfOk r (IsDelivered disk.bytes committee replica old new b) → OnOk r (RunsOn disk old new)
      → IfSome (disk.bytes old.indices.disk) (λ _. BoundsIndices disk old.indices new.indices) → IfOk r (λ reply. Replies disk committee replica b reply old new)
  replies (Ok reply) delivered runs bounds = record { delivered = delivered; runs_on = runs; not_again = bounds }
  replies (Err e) delivered runs bounds = tt

  pub refuses : (r : Result Reply DeskError) → IfErr r (IsDeskRefusal old b.header) → IfErr r (IsLeftAfter disk.failed old new)
      → IfSome (disk.bytes old.indices.disk) (λ _. BoundsIndices disk old.indices new.indices) → IfErr r (λ e. Refuses disk b.header e old new)
  refuses (Ok reply) refused left bounds = tt
  refuses (Err e) refused left bounds = record { refused = refused; left = left; not_again = bounds }

  pub survived : (opening : List Stored)
      → (IsRunning old → IfSome (disk.bytes old.log.disk) (λ _. LeavesOnly disk.moment disk.images_since old.log.disk new.log.disk (IsLeftBy committee replica old b)))
      → IfSome (disk.bytes old.log.disk) (λ _. (image : List ℕ) → IsLeftBy committee replica old b image → IsImageAfter (genesis_of committee) (stay_in opening old) image)
      → IfSome (disk.bytes old.log.disk) (λ _. SurvivesCrash disk committee replica opening old new b)
  survived opening run finds =
      some_if (disk.bytes old.log.disk) (λ _. SurvivesCrash disk committee replica opening old new b) (λ bs is. record {
        any_moment = λ running. if_some (disk.bytes old.log.disk) (λ _. LeavesOnly disk.moment disk.images_since old.log.disk new.log.disk (IsLeftBy committee replica old b)) bs (run running) is;
        finds = if_some (disk.bytes old.log.disk) (λ _. (image : List ℕ) → IsLeftBy committee replica old b image → IsImageAfter (genesis_of committee) (stay_in opening old) image) bs finds is;
      })

-- ---- what a session is told

module _ (receipts later : List Receipt) (share moved : ℕ) where
  pub told_receipts : (r : Result Reply DeskError) → MatchResult r (λ reply. IsTold receipts later share moved reply.act) (λ _. IsTold receipts later share moved Held)
      → IfOk r (λ reply. later ≡ with_receipt receipts reply.act)
  told_receipts (Ok reply) told = told.receipts_are
  told_receipts (Err e) told = tt

  pub told_share : (r : Result Reply DeskError) → MatchResult r (λ reply. IsTold receipts later share moved reply.act) (λ _. IsTold receipts later share moved Held)
      → IfOk r (λ reply. moved ≡ share + released_by reply.act)
  told_share (Ok reply) told = told.share_is
  told_share (Err e) told = tt

  pub untold : IsTold receipts later share moved Held → (later ≡ receipts) × (moved ≡ share)
  untold told = let s = told.share_is in (told.receipts_are, omega arith)

  pub told_none : (r : Result Reply DeskError) → MatchResult r (λ reply. IsTold receipts later share moved reply.act) (λ _. IsTold receipts later share moved Held)
      → OnErr r ((later ≡ receipts) × (moved ≡ share))
  told_none (Ok reply) told = tt
  told_none (Err e) told = untold told

  told_unvoted : (a : Answer) → act_of a ≢ act.Vote → IsTold receipts later share moved a → IsTold receipts later share moved Held
  told_unvoted (Voted receipt) never told = absurd (never refl)
  told_unvoted Raised never told = record { receipts_are = told.receipts_are; share_is = told.share_is }
  told_unvoted Held never told = told

  -- a session to which no vote is told is as it was
  pub told_held : (r : Result Reply DeskError) → MatchResult r (λ reply. IsTold receipts later share moved reply.act) (λ _. IsTold receipts later share moved Held)
      → IfOk r (λ reply. act_of reply.act ≢ act.Vote) → IsTold receipts later share moved Held
  told_held (Ok reply) told never = told_unvoted reply.act never told
  told_held (Err e) told never = told

-- ---- behind a timeout

-- a desk that runs is not stopped
pub never_stopped : {D : Type 0} (d : DeskView D) → IsRunning d → IsStopped d → ⊥
never_stopped d running (inl log) = false≢true (sym running.log ∙ log)
never_stopped d running (inr indices) = false≢true (sym running.indices ∙ indices)

not_below : (v w : ℕ) → w ≤ (if nat_lt v w then w else v)
not_below v w = grind (arith, nat_tests)

-- behind a timeout of its view no block is voted for
pub unvoted_act : (genesis b : Header) (s : ReplicaState) (ps : List Header) (a : Act) → IsActOn genesis (timed_out s b.view) b ps a → a ≢ act.Vote
unvoted_act genesis b s ps act.Vote on is =
    let least = not_below s.vote_view b.view in
    let below : (if nat_lt s.vote_view b.view then b.view else s.vote_view) < b.view = on.1 in
    omega arith
unvoted_act genesis b s ps act.Raise on is = cc
unvoted_act genesis b s ps act.Pass on is = cc

module _ {D : Type 0} (disk : Ghosts D) (b : Header) (old new : DeskView D) (running : IsRunning old)
    (bounds : IfSome (disk.bytes old.indices.disk) (λ _. BoundsIndices disk old.indices new.indices)) where
  refused_later : (e : DeskError) → IsDeskRefusal (timed_out_at old b.view) b e → IsLeftAfter disk.failed (timed_out_at old b.view) new e → RefusesUnvoted disk b e old new
  refused_later error.Stopped stopped left = absurd (never_stopped old running stopped)
  refused_later error.Memory refused left = record { refused = refused; left = left; not_again = bounds }
  refused_later (error.Core r) refused left = record { refused = refused; left = left; not_again = bounds }
  refused_later error.KeySpent refused left = record { refused = refused; left = left; not_again = bounds }
  refused_later error.LogFull refused left = record { refused = refused; left = left; not_again = bounds }
  refused_later error.Device refused left = record { refused = refused; left = left; not_again = bounds }
  refused_later error.ReceiptMismatch refused left = record { refused = refused; left = left; not_again = bounds }

  pub refuses_unvoted : (r : Result Reply DeskError) → IfErr r (IsDeskRefusal (timed_out_at old b.view) b) → IfErr r (IsLeftAfter disk.failed (timed_out_at old b.view) new)
      → IfErr r (λ e. RefusesUnvoted disk b e old new)
  refuses_unvoted (Ok reply) refused left = tt
  refuses_unvoted (Err e) refused left = refused_later e refused left

-- ---- indices

-- while nothing is called
pub bounded_still : {D : Type 0} (disk : Ghosts D) (i : IndexState D) → ((d : D) (image : List ℕ) → disk.images_since d (disk.moment d) image → disk.images d image)
    → IfSome (disk.bytes i.disk) (λ _. LeavesBoundary (disk.images i.disk) (limit_of i.keys) i.mark) → IfSome (disk.bytes i.disk) (λ _. BoundsIndices disk i i)
bounded_still disk i only_now bounded =
    some_if (disk.bytes i.disk) (λ _. BoundsIndices disk i i) (λ bs is.
    let here = if_some (disk.bytes i.disk) (λ _. LeavesBoundary (disk.images i.disk) (limit_of i.keys) i.mark) bs bounded is in
    record {
      any_moment = record {
        later = omega arith;
        each = λ image left. here image (only_now i.disk image left);
        before = λ t image le left. inl left;
      };
      bounded = here;
    })

-- in a call that may draw one
pub bounded_drawn : {D : Type 0} (disk : Ghosts D) (old new : IndexState D) → new.keys ≡ old.keys
    → IfSome (disk.bytes old.disk) (λ _. LeavesOnly disk.moment disk.images_since old.disk new.disk (IsBoundedBy (limit_of old.keys) old.mark))
    → IfSome (disk.bytes old.disk) (λ _. LeavesBoundary (disk.images new.disk) (limit_of old.keys) new.mark) → IfSome (disk.bytes old.disk) (λ _. BoundsIndices disk old new)
bounded_drawn disk old new same run bounded =
    some_if (disk.bytes old.disk) (λ _. BoundsIndices disk old new) (λ bs is.
    record {
      any_moment = if_some (disk.bytes old.disk) (λ _. LeavesOnly disk.moment disk.images_since old.disk new.disk (IsBoundedBy (limit_of old.keys) old.mark)) bs run is;
      bounded = subst (λ (n : ℕ). LeavesBoundary (disk.images new.disk) (limit_of n) new.mark) (sym same)
          (if_some (disk.bytes old.disk) (λ _. LeavesBoundary (disk.images new.disk) (limit_of old.keys) new.mark) bs bounded is);
    })
