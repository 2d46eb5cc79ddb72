-- The receipts of a session, and the outcomes that it was told.
use Rattle.std.specs.Prelude.{◌≡◌, ◌++◌, List}
use Rattle.std.specs.List.{Contains}
use Rattle.vote_desk.specs.Deliveries.{with_receipt}
use Rattle.vote_desk.specs.declared.reply.Answer.{Answer}
use Rattle.vote_desk.specs.declared.reply.Answer.TheVariants.{Voted, Raised, Held}
use Rattle.vote_desk.specs.declared.reply.Receipt.{Receipt}
use Rattle.replica_requests.specs.declared.outcome.Outcome.{Outcome}
use Rattle.replica_requests.specs.declared.outcome.Outcome.TheVariants as came

-- the receipt of a vote that was given out is among these
abbrev pub HasReceiptOf : List Receipt → Answer → Type 0
HasReceiptOf receipts (Voted receipt) = Contains receipts receipt
HasReceiptOf receipts Raised = Unit {0}
HasReceiptOf receipts Held = Unit {0}

-- .. if the outcome is a vote
abbrev pub HasReceipt : List Receipt → Outcome → Type 0
HasReceipt receipts (came.Replied reply) = HasReceiptOf receipts reply.act
HasReceipt receipts _ = Unit {0}

-- a session's receipts after an outcome
abbrev pub receipts_after : List Receipt → Outcome → List Receipt
receipts_after receipts (came.Replied reply) = with_receipt receipts reply.act
receipts_after receipts _ = receipts

-- they are the old ones and some more
abbrev pub ReceiptsGrow : (old new : List Receipt) → Type 0
ReceiptsGrow old new = (more : List Receipt) × (new ≡ old ++ more)
