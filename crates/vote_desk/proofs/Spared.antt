-- A delivery that leaves something for later.
use Rattle.std.proofs.Common.{◌≡◌, ◌≢◌, inl, inr, ℕ, List, Bool, true, false, cond, IfOk, IfErr, Option, Result, Ok, Err, refl, ap}
use Rattle.std.specs.Prelude.{MatchResult}
use Rattle.blocks.specs.Headers.{Header}
use Rattle.blocks.specs.Replica.{Stored}
use Rattle.certificates.specs.BlockChecks.{CheckedBlock}
use Rattle.replica_core.specs.declared.plan.Act.TheVariants as act
use Rattle.stable_log.specs.declared.disk.Disk.{Ghosts}
use Rattle.vote_desk.specs.declared.desk_error.DeskError.{DeskError}
use Rattle.vote_desk.specs.declared.parts.Left.{Left}
use Rattle.vote_desk.specs.declared.reply.Answer.{Answer}
use Rattle.vote_desk.specs.declared.reply.Answer.TheVariants.{Voted, Raised, Held}
use Rattle.vote_desk.specs.declared.reply.Receipt.{Receipt}
use Rattle.vote_desk.specs.declared.reply.Reply.{Reply}
use Rattle.vote_desk.specs.Deliveries.{IsLike, IsTold, act_of}
use Rattle.vote_desk.specs.DeskRefusals.{MayDo}
use Rattle.vote_desk.specs.Desks.{DeskView, timed_out_at}
use Rattle.vote_desk.specs.Receipts.{StandsIn}
use Rattle.vote_desk.specs.SomeDesk.{Refuses, RefusesUnvoted, Replies, RepliesUnvoted}
use Rattle.vote_desk.specs.Sparing.{RefusesSparing, RepliesSparing, has_more_at, met_sparing}

-- ---- how the desk is met

met_by : {X : Type 0} (b c : Bool) (x y : X) → b ≡ c → cond b x y ≡ cond c x y
met_by b c x y is = ap (λ (t : Bool). cond t x y) is

module _ {D : Type 0} (old : DeskView D) (spare : Left) (view : ℕ) where
  pub met_as_it_is : has_more_at old spare ≡ true → met_sparing old spare view ≡ old
  met_as_it_is more = met_by (has_more_at old spare) true old (timed_out_at old view) more

  pub met_later : has_more_at old spare ≡ false → met_sparing old spare view ≡ timed_out_at old view
  met_later few = met_by (has_more_at old spare) false old (timed_out_at old view) few

-- ---- answers and refusals

module _ {D : Type 0} (disk : Ghosts D) (committee : List ℕ) (replica : ℕ) (spare : Left) (b : CheckedBlock) (old new : DeskView D) where
  pub replies_more : has_more_at old spare ≡ true → (r : Result Reply DeskError) → IfOk r (λ reply. Replies disk committee replica b reply old new)
      → IfOk r (λ reply. RepliesSparing disk committee replica spare b reply old new)
  replies_more more (Ok reply) is = inl (more, is)
  replies_more more (Err e) is = tt

  pub refuses_more : has_more_at old spare ≡ true → (r : Result Reply DeskError) → IfErr r (λ e. Refuses disk b.header e old new)
      → IfErr r (λ e. RefusesSparing disk spare b.header e old new)
  refuses_more more (Ok reply) is = tt
  refuses_more more (Err e) is = inl (more, is)

  pub replies_few : has_more_at old spare ≡ false → (r : Result Reply DeskError) → IfOk r (λ reply. act_of reply.act ≢ act.Vote)
      → IfOk r (λ reply. RepliesUnvoted disk committee replica b reply old new) → IfOk r (λ reply. RepliesSparing disk committee replica spare b reply old new)
  replies_few few (Ok reply) never is = inr (few, never, is)
  replies_few few (Err e) never is = tt

  pub refuses_few : has_more_at old spare ≡ false → (r : Result Reply DeskError) → IfErr r (λ e. RefusesUnvoted disk b.header e old new)
      → IfErr r (λ e. RefusesSparing disk spare b.header e old new)
  refuses_few few (Ok reply) is = tt
  refuses_few few (Err e) is = inr (few, is)

-- ---- what does not look at the core's state

module _ {D : Type 0} (old : DeskView D) (view : ℕ) (b : Header) where
  may_now : (a : Answer) → MayDo (timed_out_at old view) b (act_of a) → MayDo old b (act_of a)
  may_now a may = record {
    running = record { log = may.running.log; indices = may.running.indices };
    admissible = record { parent = may.admissible.parent; parent_view = may.admissible.parent_view; place = may.admissible.place; own_id = may.admissible.own_id };
    room = may.room;
  }

  pub may_unvoted : (r : Result Reply DeskError) → IfOk r (λ reply. MayDo (timed_out_at old view) b (act_of reply.act)) → IfOk r (λ reply. MayDo old b (act_of reply.act))
  may_unvoted (Ok reply) may = may_now reply.act may
  may_unvoted (Err e) may = tt

  pub like_unvoted : (bytes : D → Option (List ℕ)) (new : DeskView D) → IsLike bytes (timed_out_at old view) new → IsLike bytes old new
  like_unvoted bytes new like = record { keys = like.keys; tells = like.tells; grows = like.grows; stopped = like.stopped }

-- ---- a session to which no vote is told

module _ (receipts later : List Receipt) (share moved : ℕ) where
  told_any : (a : Answer) → act_of a ≢ act.Vote → IsTold receipts later share moved Held → IsTold receipts later share moved a
  told_any (Voted receipt) never told = absurd (never refl)
  told_any Raised never told = record { receipts_are = told.receipts_are; share_is = told.share_is }
  told_any Held never told = told

  pub told_unvoted : (r : Result Reply DeskError) → IfOk r (λ reply. act_of reply.act ≢ act.Vote) → IsTold receipts later share moved Held
      → MatchResult r (λ reply. IsTold receipts later share moved reply.act) (λ _. IsTold receipts later share moved Held)
  told_unvoted (Ok reply) never told = told_any reply.act never told
  told_unvoted (Err e) never told = told

stands_any : (steps : List Stored) (a : Answer) → act_of a ≢ act.Vote → StandsIn steps a
stands_any steps (Voted receipt) never = absurd (never refl)
stands_any steps Raised never = tt
stands_any steps Held never = tt

pub stands_unvoted : (steps : List Stored) (r : Result Reply DeskError) → IfOk r (λ reply. act_of reply.act ≢ act.Vote) → IfOk r (λ reply. StandsIn steps reply.act)
stands_unvoted steps (Ok reply) never = stands_any steps reply.act never
stands_unvoted steps (Err e) never = tt
