-- The receipts of a session from the outcome of one line to the next.
use Rattle.std.proofs.Common.{List}
use Rattle.std.specs.List.{Contains}
use Rattle.vote_desk.specs.declared.reply.Receipt.{Receipt}
use Rattle.replica_requests.specs.SessionReceipts.{ReceiptsGrow}
use Rattle.replica_requests.proofs.Receipts.{grow_after, grow_none, has_receipt_after, has_receipt_among_more}
use Rattle.replica_requests.specs.declared.outcome_line.LineOutcome.{LineOutcome}
use Rattle.replica_requests.specs.declared.outcome_line.LineOutcome.TheVariants.{Came, BadLine}
use Rattle.replica_command.specs.LineReceipts.{HasLineReceipt, receipts_after_line}

pub grow_after_line : (receipts : List Receipt) (o : LineOutcome) → ReceiptsGrow receipts (receipts_after_line receipts o)
grow_after_line receipts (Came outcome) = grow_after receipts outcome
grow_after_line receipts BadLine = grow_none receipts

pub has_receipt_after_line : (receipts : List Receipt) (o : LineOutcome) → HasLineReceipt (receipts_after_line receipts o) o
has_receipt_after_line receipts (Came outcome) = has_receipt_after receipts outcome
has_receipt_after_line receipts BadLine = tt

pub has_line_receipt_among_more : (receipts more : List Receipt) (o : LineOutcome) → ((r : Receipt) → Contains receipts r → Contains more r) → HasLineReceipt receipts o → HasLineReceipt more o
has_line_receipt_among_more receipts more (Came outcome) keeps h = has_receipt_among_more receipts more outcome keeps h
has_line_receipt_among_more receipts more BadLine keeps h = tt
