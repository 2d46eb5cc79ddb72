-- When receipts are those of a log, and what the images of a closed desk's log have.
use Rattle.std.specs.Prelude.{◌≡◌, ◌≢◌, ◌<◌, ◌≤◌, ◌+◌, ◌++◌, ℕ, List, [], ◌∷◌, Bool, true, Some, length, drop, nat_le, ◌&&◌, slice_get}
use Rattle.std.specs.List.{All, AllPairs}
use Rattle.blocks.specs.Headers.{Header, header_id}
use Rattle.blocks.specs.Replay.{FitsOpening}
use Rattle.blocks.specs.Replica.{Stored}
use Rattle.blocks.specs.declared.ballot.Ballot.{Ballot}
use Rattle.log_format.specs.EntryText.{Entry}
use Rattle.vote_log.specs.Logs.{StandsForEntries, steps_of}
use Rattle.vote_desk.specs.declared.reply.Answer.{Answer}
use Rattle.vote_desk.specs.declared.reply.Answer.TheVariants.{Voted, Raised, Held}
use Rattle.vote_desk.specs.declared.reply.Receipt.{Receipt}
use Rattle.vote_desk.specs.Desks.{vote_count}

-- ---- receipts of a log

-- the receipts of sessions, the last session's first
abbrev pub receipts_of : List (List Receipt) → List Receipt
receipts_of [] = []
receipts_of (rs ∷ rest) = receipts_of rest ++ rs

-- the vote of a receipt
abbrev pub receipt_ballot : Receipt → Ballot
receipt_ballot r = record { view = r.vote.view; id = r.vote.id }

-- the entry is a vote for the receipt's view and id
pub record IsVoteIn (entry : Stored) (r : Receipt) : Type 0 where
  pub voted : entry.voted ≡ true
  pub view : r.vote.view ≡ entry.block.view
  pub id : r.vote.id ≡ header_id entry.block

-- the entry of the receipt's number is such a vote, and stands behind the opening list
pub record IsReceiptOf (opened : ℕ) (steps : List Stored) (r : Receipt) : Type 0 where
  pub behind : opened ≤ r.number
  pub entry : Stored
  pub at : slice_get steps r.number ≡ Some entry
  pub vote : IsVoteIn entry r

-- the receipt of an answer, if it has one, is of the list
abbrev pub StandsIn : List Stored → Answer → Type 0
StandsIn steps (Voted r) = IsReceiptOf 0 steps r
StandsIn steps Raised = Unit {0}
StandsIn steps Held = Unit {0}

-- no two have one number
abbrev pub HaveOwnNumbers : List Receipt → Type 0
HaveOwnNumbers receipts = AllPairs (λ r s. r.number ≢ s.number) receipts

-- in any order: no two have one number, each is of the log, and there are as many as votes behind the opening list
pub record AreReceipts (opened : ℕ) (steps : List Stored) (receipts : List Receipt) : Type 0 where
  pub own : HaveOwnNumbers receipts
  pub each : All (IsReceiptOf opened steps) receipts
  pub all : length receipts ≡ vote_count (drop opened steps)

-- their numbers rise
abbrev pub AreRisingByNumber : List Receipt → Type 0
AreRisingByNumber receipts = AllPairs (λ r s. r.number < s.number) receipts

-- ---- what a crash leaves of a closed desk's log

-- the image stands for a list that fits the opening list and these headers, has each receipt's entry at its number, and
-- at most one entry more than the log
pub record KeepsReceipts (hs : List Header) (genesis : Header) (opening : List Stored) (entries : List Entry) (receipts : List Receipt) (image : List ℕ) : Type 0 where
  pub list : List Entry
  pub stands : StandsForEntries image list
  pub fits : FitsOpening hs genesis opening (steps_of list)
  pub has : All (IsReceiptOf (length opening) (steps_of list)) receipts
  pub most : length list ≤ length entries + 1

-- ---- a part of closing

-- their numbers rise, from this one on
abbrev pub numbers_rise_from : ℕ → List Receipt → Bool
numbers_rise_from least [] = true
numbers_rise_from least (r ∷ rs) = nat_le least r.number && numbers_rise_from (r.number + 1) rs
