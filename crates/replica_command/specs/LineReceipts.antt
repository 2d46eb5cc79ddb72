-- The receipts of a session, and the outcomes of lines that it was told.
use Rattle.std.specs.Prelude.{List, ⊤}
use Rattle.vote_desk.specs.declared.reply.Receipt.{Receipt}
use Rattle.replica_requests.specs.SessionReceipts.{HasReceipt, receipts_after}
use Rattle.replica_requests.specs.declared.outcome_line.LineOutcome.{LineOutcome}
use Rattle.replica_requests.specs.declared.outcome_line.LineOutcome.TheVariants.{Came, BadLine}

-- the receipt of a vote that was given out is among these
abbrev pub HasLineReceipt : List Receipt → LineOutcome → Type 0
HasLineReceipt receipts (Came outcome) = HasReceipt receipts outcome
HasLineReceipt receipts BadLine = ⊤

-- a session's receipts after the outcome of a line
abbrev pub receipts_after_line : List Receipt → LineOutcome → List Receipt
receipts_after_line receipts (Came outcome) = receipts_after receipts outcome
receipts_after_line receipts BadLine = receipts
