-- What may come of a request where some blocks are not voted for, and a log that was put back is found out.
use Rattle.std.specs.Prelude.{◌≡◌, ◌≢◌, ◌≤◌, ◌⊎◌, ℕ, List, Option, true}
use Rattle.blocks.specs.Headers.{Header}
use Rattle.blocks.specs.Replica.{Stored}
use Rattle.handover_blocks.specs.Handovers.{IsHandover, handover_mark}
use Rattle.certificates.specs.BlockChecks.{IsBlockRefusal, IsChecked}
use Rattle.certificates.specs.Certificates.{Certificate}
use Rattle.replica_core.specs.Marks.{IsFirstMarkedIn}
use Rattle.replica_core.specs.declared.plan.Act.TheVariants.{Vote}
use Rattle.stable_log.specs.declared.disk.Disk.{Ghosts}
use Rattle.vote_log.specs.declared.log_error.LogError.{LogError}
use Rattle.vote_desk.specs.Deliveries.{IsGoodReply, act_of}
use Rattle.vote_desk.specs.DeskRefusals.{from_log}
use Rattle.vote_desk.specs.Desks.{DeskView, left_of}
use Rattle.vote_desk.specs.Firsts.{RefusesOnce, RepliesOnce}
use Rattle.vote_desk.specs.Holding.{IsHeldOnly, RefusesHold}
use Rattle.vote_desk.specs.Sparing.{RefusesSparing, RepliesSparing}
use Rattle.vote_desk.specs.SomeDesk.{IsDeskOf, RefusesUnvoted, RepliesUnvoted, SomeDesk, SomeDeskMoves}
use Rattle.vote_desk.specs.declared.desk_error.DeskError.{DeskError}
use Rattle.vote_desk.specs.declared.parts.Left.{Left}
use Rattle.vote_desk.specs.declared.reply.Answer.{Answer}
use Rattle.vote_desk.specs.declared.reply.Answer.TheVariants.{Held}
use Rattle.vote_desk.specs.declared.reply.Receipt.{Receipt}
use Rattle.vote_desk.specs.declared.reply.Reply.{Reply}
use Rattle.replica_requests.specs.declared.outcome.Outcome.{Outcome}
use Rattle.replica_requests.specs.declared.outcome.Outcome.TheVariants as came
use Rattle.replica_requests.specs.declared.request.Request.{Request}
use Rattle.replica_requests.specs.declared.request.Request.TheVariants as asks
use Rattle.replica_requests.specs.Answers.{IsAnswerTo, block_of}
use Rattle.signer_answers.specs.Approvals.{IsApproved, IsWithheld, Telling}
use Rattle.signer_answers.specs.Sparings.{last_spare, ordinary_spare}
use Rattle.signer_answers.specs.Guards.{IsNotVotedBefore, IsUndecided, IsPutBack, IsRemembered, IsUnreadAs, IsUnreadable, IsVotedBefore}
use Rattle.signer_answers.specs.declared.sparing.Way.{Way}
use Rattle.signer_answers.specs.declared.sparing.Way.TheVariants as way
use Rattle.signer_answers.specs.declared.told.Told.{Told}
use Rattle.signer_answers.specs.declared.told.Told.TheVariants as told

module _ {D : Type 0} (disk : Ghosts D) (committee : List ℕ) (replica : ℕ) (opening : List Stored) where
  -- some desk of this committee, replica and opening list moves so
  abbrev pub SomeMove : ((old new : DeskView D) → Type 0) → Type 0
  SomeMove Moves = SomeDeskMoves (IsDeskOf disk committee replica opening) Moves

  -- some such desk is so
  abbrev pub SomeOne : (DeskView D → Type 0) → Type 0
  SomeOne Is = SomeDesk (IsDeskOf disk committee replica opening) Is

  -- ---- a block

  -- some desk's log has no room for an entry
  abbrev pub IsFull : Type 0
  IsFull = SomeOne (λ d. (left_of d).entries ≡ 0)

  -- the block stands on genesis, or on some desk a block below it in its chain hands over
  abbrev pub IsBeside : Header → Type 0
  IsBeside header =
      (header.parent_view ≡ 0)
      ⊎ ((h : Header) × SomeOne (λ d. IsFirstMarkedIn d.core handover_mark header.parent h))

  -- what is spared for later by a block that does not hand over
  abbrev pub IsSpareFor : Header → Left → Type 0
  IsSpareFor header spare = (spare ≡ ordinary_spare) ⊎ (IsBeside header × (spare ≡ last_spare))

  -- the signer spares for later, the block hands over, and some desk has no more than the last indices left
  pub record IsTooLate (tells : Telling) (header : Header) : Type 0 where
    pub spares : tells.spares ≡ true
    pub marked : IsHandover header
    pub low : SomeOne (λ d. (left_of d).indices ≤ last_spare.indices)

  -- the block is withheld, or comes too late: it is not voted for
  abbrev pub IsUnvoted : Telling → Header → Type 0
  IsUnvoted tells header = IsWithheld tells header ⊎ IsTooLate tells header

  -- the block is approved, and hands over where the signer spares for later
  pub record IsUnspared (tells : Telling) (header : Header) : Type 0 where
    pub approved : IsApproved committee tells header
    pub marked : tells.spares ≡ true → IsHandover header

  -- the block is approved and does not hand over, and so much is spared for later
  pub record IsSpared (tells : Telling) (header : Header) (spare : Left) : Type 0 where
    pub spares : tells.spares ≡ true
    pub approved : IsApproved committee tells header
    pub unmarked : IsHandover header → ⊥
    pub is_spare : IsSpareFor header spare

  -- how a block is delivered
  abbrev pub IsWay : Telling → Header → Way → Type 0
  IsWay tells header way.Unvoted = IsUnvoted tells header
  IsWay tells header way.Once = IsUnspared tells header
  IsWay tells header (way.Sparing spare) = IsSpared tells header spare

  -- the block is approved, and some desk moved by its one event with this reply, which is no vote for a handover above another, nor one
  -- for which too little is left; or it is not voted for, and that desk gave up on its view before, so that the reply is no vote; or the
  -- log is full, and the block was held and no more
  abbrev pub IsReplied : Telling → Header → Certificate → Reply → Type 0
  IsReplied tells header certificate reply =
      (IsUnspared tells header × SomeMove (RepliesOnce disk committee replica handover_mark (block_of committee header certificate) reply))
      ⊎ ((IsUnvoted tells header × (act_of reply.act ≢ Vote)
      × SomeMove (RepliesUnvoted disk committee replica (block_of committee header certificate) reply))
      ⊎ ((IsFull × (reply.act ≡ Held) × SomeMove (IsHeldOnly header reply))
      ⊎ ((spare : Left) × IsSpared tells header spare
      × SomeMove (RepliesSparing disk committee replica spare (block_of committee header certificate) reply))))

  -- .. and some desk refuses it so, and is left so
  abbrev pub IsRefused : Telling → Header → DeskError → Type 0
  IsRefused tells header refusal =
      (IsUnspared tells header × SomeMove (RefusesOnce disk handover_mark header refusal))
      ⊎ ((IsUnvoted tells header × SomeMove (RefusesUnvoted disk header refusal))
      ⊎ ((IsFull × SomeMove (RefusesHold header refusal))
      ⊎ ((spare : Left) × IsSpared tells header spare × SomeMove (RefusesSparing disk spare header refusal))))

  -- the certificate is good and remembered, and the desk replies so
  pub record IsReplyWithin (tells : Telling) (receipts : List Receipt) (header : Header) (certificate : Certificate) (reply : Reply) : Type 0 where
    pub checked : IsChecked committee header certificate
    pub remembered : IsRemembered disk committee replica opening receipts certificate
    pub good : IsGoodReply committee replica header reply
    pub event : IsReplied tells header certificate reply

  -- a block is told as held only where the log has no vote for it, or can't be read though it runs
  abbrev pub IsToldPlainly : List Receipt → Header → Answer → Type 0
  IsToldPlainly receipts header Held = IsNotVotedBefore disk committee replica opening receipts header
  IsToldPlainly receipts header _ = Unit {0}

  -- the certificate is good and remembered, and the desk refuses the block so
  pub record IsRefusalWithin (tells : Telling) (receipts : List Receipt) (header : Header) (certificate : Certificate) (refusal : DeskError) : Type 0 where
    pub checked : IsChecked committee header certificate
    pub remembered : IsRemembered disk committee replica opening receipts certificate
    pub refused : IsRefused tells header refusal

  -- the certificate is good, and what the log has in its view can't be read, or is spoilt: nothing is delivered
  pub record IsUnreadWithin (receipts : List Receipt) (header : Header) (certificate : Certificate) (e : LogError) : Type 0 where
    pub checked : IsChecked committee header certificate
    pub unread : IsUndecided disk committee replica opening receipts certificate e

  -- .. for want of memory, or since the log is stopped
  abbrev pub IsUnreadFor : List Receipt → Header → Certificate → DeskError → Type 0
  IsUnreadFor receipts header certificate refusal =
      (e : LogError) × IsUnreadWithin receipts header certificate e × (IsUnreadable e → ⊥) × (refusal ≡ from_log e)

  -- the block is held, and what the log has in its view can't be read, for want of memory or since the log is stopped
  pub record IsHeldUnread (tells : Telling) (receipts : List Receipt) (header : Header) (certificate : Certificate) (refusal : DeskError) : Type 0 where
    pub committed : Option (List ℕ)
    pub held : IsReplyWithin tells receipts header certificate (record { act = Held; committed = committed })
    pub unread : IsUnreadAs disk committee replica opening receipts header.view refusal

  -- what may come of a block: its certificate is judged, and if it is good and remembered, the block goes to the desk
  abbrev pub IsBlockAnswer : Telling → List Receipt → Header → Certificate → Outcome → Type 0
  IsBlockAnswer tells receipts header certificate (came.Replied reply) =
      IsReplyWithin tells receipts header certificate reply × IsToldPlainly receipts header reply.act
  IsBlockAnswer tells receipts header certificate (came.RefusedBlock refusal) = IsBlockRefusal refusal committee header certificate
  IsBlockAnswer tells receipts header certificate (came.RefusedByDesk refusal) =
      IsRefusalWithin tells receipts header certificate refusal ⊎ IsUnreadFor receipts header certificate refusal
      ⊎ IsHeldUnread tells receipts header certificate refusal
  IsBlockAnswer tells receipts header certificate _ = ⊥

  -- what may be told of a block beside: that the desk holds it, and the log's vote for it; or that the log can't be read
  abbrev pub IsBlockTold : Telling → List Receipt → Header → Certificate → Told → Type 0
  IsBlockTold tells receipts header certificate (told.Came outcome) = IsBlockAnswer tells receipts header certificate outcome
  IsBlockTold tells receipts header certificate (told.Again receipt committed) =
      IsReplyWithin tells receipts header certificate (record { act = Held; committed = committed })
      × IsVotedBefore disk committee replica opening receipts header receipt
  IsBlockTold tells receipts header certificate (told.Unread e) = IsUnreadWithin receipts header certificate e × IsUnreadable e
  IsBlockTold tells receipts header certificate _ = ⊥

  -- ---- a request

  -- what may come of a request of a caller who has these receipts: but for a block it is what comes of it at any replica; of a
  -- block also that the log was put back, and nothing is delivered. Whether others are asked first is not looked at here
  abbrev pub IsSignerAnswer : Telling → List Receipt → Request → Told → Type 0
  IsSignerAnswer tells receipts (asks.Block header certificate) (told.PutBack ballot) = IsPutBack disk committee replica opening receipts ballot
  IsSignerAnswer tells receipts (asks.Block header certificate) it = IsBlockTold tells receipts header certificate it
  IsSignerAnswer tells receipts asked (told.Came outcome) = IsAnswerTo disk committee replica opening asked outcome
  IsSignerAnswer tells receipts asked _ = ⊥
