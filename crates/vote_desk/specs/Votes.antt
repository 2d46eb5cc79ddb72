-- The vote of a log in a view. A legal list has one at the most.
use Rattle.std.specs.Prelude.{◌≡◌, ◌≢◌, ◌≤◌, ℕ, List, true, Option, Some, None, IfSome, slice_get}
use Rattle.std.specs.List.{All, Contains}
use Rattle.blocks.specs.Headers.{Header}
use Rattle.blocks.specs.Replay.{replay}
use Rattle.blocks.specs.Replica.{Stored}
use Rattle.log_format.specs.EntryText.{Entry, own_vote_of}
use Rattle.base_streams.specs.Counting.{HasFailed}
use Rattle.stable_log.specs.declared.disk.Disk.{Ghosts}
use Rattle.vote_log.specs.LogRefusals.{IsLogEntryRefusal}
use Rattle.vote_log.specs.Logs.{LogState}
use Rattle.vote_log.specs.declared.log_error.LogError.{LogError}
use Rattle.vote_log.specs.declared.log_error.LogError.TheVariants.{Device, Stopped}
use Rattle.vote_desk.specs.declared.reply.Receipt.{Receipt}
use Rattle.vote_desk.specs.Deliveries.{ListGrows}
use Rattle.vote_desk.specs.Desks.{DeskView}
use Rattle.vote_desk.specs.Exports.{IsOnlyRead}
use Rattle.vote_desk.specs.Receipts.{IsReceiptOf}

-- ---- the vote

-- the entry is a vote in this view
pub record IsVoteOfView (view : ℕ) (x : Stored) : Type 0 where
  pub voted : x.voted ≡ true
  pub at : x.block.view ≡ view

-- entry k is
abbrev pub IsVoteAt : ℕ → List Stored → ℕ → Type 0
IsVoteAt view steps k = (x : Stored) × (slice_get steps k ≡ Some x) × IsVoteOfView view x

-- no entry is
abbrev pub HasNoVote : ℕ → List Stored → Type 0
HasNoVote view steps = (k : ℕ) → IsVoteAt view steps k → ⊥

-- the receipt is of the entry that is this replica's vote in this view; where the log's disk tells its bytes, the vote is
-- the one in that entry
pub record HasVote {D : Type 0} (bytes : D → Option (List ℕ)) (replica : ℕ) (log : LogState D) (view : ℕ) (r : Receipt) : Type 0 where
  pub receipt : IsReceiptOf 0 log.steps r
  pub view_is : r.vote.view ≡ view
  pub replica_is : r.vote.replica ≡ replica
  pub told : IfSome (bytes log.disk) (λ _. (e : Entry) × (slice_get log.entries r.number ≡ Some e) × (own_vote_of e replica ≡ Some r.vote))

-- what is found: the vote, or that there is none
abbrev pub IsVoteFound : {D : Type 0} → (D → Option (List ℕ)) → ℕ → LogState D → ℕ → Option Receipt → Type 0
IsVoteFound bytes replica log view (Some r) = HasVote bytes replica log view r
IsVoteFound bytes replica log view None = HasNoVote view log.steps

-- ---- what the opening list says of it

-- a receipt of entry k of this list is found
abbrev pub IsFoundAt : List Stored → ℕ → Option Receipt → Type 0
IsFoundAt list k (Some r) = (r.number ≡ k) × IsReceiptOf 0 list r
IsFoundAt list k None = ⊥

-- the vote that the opening list has in this view is found
abbrev pub IsFoundAsOpened : List Stored → ℕ → Option Receipt → Type 0
IsFoundAsOpened opening view found = (k : ℕ) → IsVoteAt view opening k → IsFoundAt opening k found

-- in a view up to the opening list's stored vote view no vote is found that it lacks
abbrev pub IsNoneFoundBelow : Header → List Stored → ℕ → Option Receipt → Type 0
IsNoneFoundBelow genesis opening view found = view ≤ (replay genesis opening).stored_vote_view → HasNoVote view opening → found ≡ None

-- ---- what was released

-- each vote in this view that a first part of the list has is found
abbrev pub IsFoundSince : List Stored → ℕ → Option Receipt → Type 0
IsFoundSince list view found = (earlier : List Stored) (k : ℕ) → ListGrows earlier list → IsVoteAt view earlier k → IsFoundAt earlier k found

-- where the receipt's vote is in this view, just that receipt is found
abbrev pub IsFoundIfIn : ℕ → Option Receipt → Receipt → Type 0
IsFoundIfIn view found r = r.vote.view ≡ view → found ≡ Some r

-- .. and so for each of these receipts
abbrev pub AreFound : ℕ → List Receipt → Option Receipt → Type 0
AreFound view receipts found = All (IsFoundIfIn view found) receipts

-- one of these receipts has this number and a vote in this view, and something else is found
pub record IsNotFound (view : ℕ) (receipts : List Receipt) (found : Option Receipt) (number : ℕ) : Type 0 where
  pub receipt : Receipt
  pub released : Contains receipts receipt
  pub number_is : receipt.number ≡ number
  pub view_is : receipt.vote.view ≡ view
  pub other : found ≢ Some receipt

-- ---- refusals

-- `vote_in`: only the entry that is the vote is read
abbrev pub IsVoteInRefusal : {D : Type 0} → Option (List ℕ) → LogState D → ℕ → LogError → Type 0
IsVoteInRefusal told log view Stopped = log.stopped ≡ true
IsVoteInRefusal told log view e = (k : ℕ) × IsVoteAt view log.steps k × IsLogEntryRefusal told log k e

-- a desk refuses so, is only read, and `Device` has a cause
pub record RefusesVoteIn {D : Type 0} (disk : Ghosts D) (view : ℕ) (e : LogError) (old new : DeskView D) : Type 0 where
  pub refused : IsVoteInRefusal (disk.bytes old.log.disk) old.log view e
  pub read : IsOnlyRead disk old new
  pub cause : e ≡ Device → HasFailed (disk.failed old.log.disk) (disk.failed new.log.disk)
