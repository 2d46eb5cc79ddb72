-- A desk after calls, one after the other, as a lock hands it on: what is found then was there before, or was released since.
use Rattle.std.specs.Prelude.{◌≡◌, ◌⊎◌, ℕ, List, [], ◌∷◌, Option, Some}
use Rattle.blocks.specs.Replica.{Stored}
use Rattle.certificates.specs.BlockChecks.{CheckedBlock}
use Rattle.stable_log.specs.declared.disk.Disk.{Ghosts}
use Rattle.vote_desk.specs.declared.desk_error.DeskError.{DeskError}
use Rattle.vote_desk.specs.declared.reply.Answer.TheVariants.{Voted}
use Rattle.vote_desk.specs.declared.reply.Receipt.{Receipt}
use Rattle.vote_desk.specs.declared.reply.Reply.{Reply}
use Rattle.vote_desk.specs.Desks.{DeskView, timed_out_at}
use Rattle.vote_desk.specs.Exports.{IsOnlyRead}
use Rattle.vote_desk.specs.Receipts.{IsReceiptOf}
use Rattle.vote_desk.specs.SomeDesk.{IsDeskOf, Refuses, Replies}
use Rattle.vote_desk.specs.Votes.{IsFoundAt, IsVoteFound}

-- they are of one vote: in number, view and id
pub record AreOfOneVote (r s : Receipt) : Type 0 where
  pub number : r.number ≡ s.number
  pub view : r.vote.view ≡ s.vote.view
  pub id : r.vote.id ≡ s.vote.id

module _ {D : Type 0} (disk : Ghosts D) (committee : List ℕ) (replica : ℕ) where
  -- ---- calls

  -- a delivery is answered, or refused; or there is a timeout; or the desk is only read; or the log is not touched, as where a
  -- block is held only, or a statement signed. A block is delivered unvoted by two of these, a timeout and a delivery
  abbrev pub IsCall : (old new : DeskView D) → Type 0
  IsCall old new =
      ((b : CheckedBlock) × (reply : Reply) × Replies disk committee replica b reply old new)
      ⊎ ((b : CheckedBlock) × (e : DeskError) × Refuses disk b.header e old new)
      ⊎ ((view : ℕ) × (new ≡ timed_out_at old view))
      ⊎ IsOnlyRead disk old new
      ⊎ (new.log ≡ old.log)

  -- calls that leave these desks, and last the new one
  abbrev pub AreCalls : DeskView D → List (DeskView D) → DeskView D → Type 0
  AreCalls old [] new = new ≡ old
  AreCalls old (d ∷ ds) new = IsCall old d × AreCalls d ds new

  -- a delivery releases this vote
  pub record Releases (r : Receipt) (old new : DeskView D) : Type 0 where
    pub block : CheckedBlock
    pub reply : Reply
    pub replied : Replies disk committee replica block reply old new
    pub voted : reply.act ≡ Voted r

  -- one of the calls does
  abbrev pub OneReleases : Receipt → DeskView D → List (DeskView D) → DeskView D → Type 0
  OneReleases r old [] new = ⊥
  OneReleases r old (d ∷ ds) new = Releases r old d ⊎ OneReleases r d ds new

  -- ---- laws

  -- a vote that one of the calls released is found behind them
  abbrev pub AReleasedVoteIsFound : List Stored → Type 0
  AReleasedVoteIsFound opening =
      (old new : DeskView D) (calls : List (DeskView D)) (r : Receipt) (found : Option Receipt)
      → AreCalls old calls new → IsDeskOf disk committee replica opening new → OneReleases r old calls new
      → IsVoteFound disk.bytes replica new.log r.vote.view found → IsFoundAt new.log.steps r.number found

  -- a vote that is found behind the calls stood in the list before them, or one of them released it
  abbrev pub AFoundVoteWasReleased : Type 0
  AFoundVoteWasReleased =
      (old new : DeskView D) (calls : List (DeskView D)) (view : ℕ) (r : Receipt)
      → AreCalls old calls new → IsVoteFound disk.bytes replica new.log view (Some r)
      → IsReceiptOf 0 old.log.steps r ⊎ ((s : Receipt) × OneReleases s old calls new × AreOfOneVote r s)
