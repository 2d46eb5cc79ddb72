-- A delivery that votes for one marked block of a chain at the most.
use Rattle.std.proofs.Common.{◌≡◌, ◌≢◌, ◌+◌, inl, inr, ℕ, List, IfOk, IfErr, OnErr, Result, Ok, Err, refl, arith}
use Rattle.certificates.specs.BlockChecks.{CheckedBlock}
use Rattle.replica_core.specs.declared.plan.Act.TheVariants as act
use Rattle.stable_log.specs.declared.disk.Disk.{Ghosts}
use Rattle.vote_desk.specs.declared.desk_error.DeskError.{DeskError}
use Rattle.vote_desk.specs.declared.reply.Answer.{Answer}
use Rattle.vote_desk.specs.declared.reply.Answer.TheVariants.{Voted, Raised, Held}
use Rattle.vote_desk.specs.declared.reply.Receipt.{Receipt}
use Rattle.vote_desk.specs.declared.reply.Reply.{Reply}
use Rattle.vote_desk.specs.Deliveries.{IsTold, act_of, released_by, with_receipt}
use Rattle.vote_desk.specs.Desks.{DeskView}
use Rattle.vote_desk.specs.Firsts.{IsMarkedAgain, IsMarkedOnce, RefusesOnce, RepliesOnce}
use Rattle.vote_desk.specs.SomeDesk.{Refuses, RefusesUnvoted, Replies, RepliesUnvoted}

module _ {D : Type 0} (disk : Ghosts D) (committee : List ℕ) (replica : ℕ) (mark : List ℕ) (b : CheckedBlock) (old new : DeskView D) where
  pub replies_once : IsMarkedOnce old mark b.header → (r : Result Reply DeskError) → IfOk r (λ reply. Replies disk committee replica b reply old new)
      → IfOk r (λ reply. RepliesOnce disk committee replica mark b reply old new)
  replies_once once (Ok reply) is = inl (once, is)
  replies_once once (Err e) is = tt

  pub refuses_once : IsMarkedOnce old mark b.header → (r : Result Reply DeskError) → IfErr r (λ e. Refuses disk b.header e old new)
      → IfErr r (λ e. RefusesOnce disk mark b.header e old new)
  refuses_once once (Ok reply) is = tt
  refuses_once once (Err e) is = inl (once, is)

  pub replies_again : IsMarkedAgain old mark b.header → (r : Result Reply DeskError) → IfOk r (λ reply. act_of reply.act ≢ act.Vote)
      → IfOk r (λ reply. RepliesUnvoted disk committee replica b reply old new) → IfOk r (λ reply. RepliesOnce disk committee replica mark b reply old new)
  replies_again again (Ok reply) never is = inr (again, never, is)
  replies_again again (Err e) never is = tt

  pub refuses_again : IsMarkedAgain old mark b.header → (r : Result Reply DeskError) → IfErr r (λ e. RefusesUnvoted disk b.header e old new)
      → IfErr r (λ e. RefusesOnce disk mark b.header e old new)
  refuses_again again (Ok reply) is = tt
  refuses_again again (Err e) is = inr (again, is)

-- ---- what a session is told of a block that is not voted for

module _ (receipts later : List Receipt) (share moved : ℕ) where
  receipts_held : (a : Answer) → act_of a ≢ act.Vote → IsTold receipts later share moved Held → later ≡ with_receipt receipts a
  receipts_held (Voted receipt) never told = absurd (never refl)
  receipts_held Raised never told = told.receipts_are
  receipts_held Held never told = told.receipts_are

  share_held : (a : Answer) → act_of a ≢ act.Vote → IsTold receipts later share moved Held → moved ≡ share + released_by a
  share_held (Voted receipt) never told = absurd (never refl)
  share_held Raised never told = told.share_is
  share_held Held never told = told.share_is

  pub receipts_unvoted : (r : Result Reply DeskError) → IfOk r (λ reply. act_of reply.act ≢ act.Vote) → IsTold receipts later share moved Held
      → IfOk r (λ reply. later ≡ with_receipt receipts reply.act)
  receipts_unvoted (Ok reply) never told = receipts_held reply.act never told
  receipts_unvoted (Err e) never told = tt

  pub share_unvoted : (r : Result Reply DeskError) → IfOk r (λ reply. act_of reply.act ≢ act.Vote) → IsTold receipts later share moved Held
      → IfOk r (λ reply. moved ≡ share + released_by reply.act)
  share_unvoted (Ok reply) never told = share_held reply.act never told
  share_unvoted (Err e) never told = tt

  pub none_unvoted : (r : Result Reply DeskError) → IsTold receipts later share moved Held → OnErr r ((later ≡ receipts) × (moved ≡ share))
  none_unvoted (Ok reply) told = tt
  none_unvoted (Err e) told = let s = told.share_is in (told.receipts_are, omega arith)
