-- The receipts of a session from one outcome to the next.
use Rattle.std.proofs.Common.{◌∙◌, ◌++◌, ◌∷◌, List, [], ap, append-nil, append_assoc, refl, subst, sym}
use Rattle.std.specs.List.{Contains}
use Rattle.std.proofs.lemmas.List.Elements.{Contains-append_left, Contains-push}
use Rattle.vote_desk.specs.Deliveries.{with_receipt}
use Rattle.vote_desk.specs.declared.reply.Answer.{Answer}
use Rattle.vote_desk.specs.declared.reply.Answer.TheVariants.{Voted, Raised, Held}
use Rattle.vote_desk.specs.declared.reply.Receipt.{Receipt}
use Rattle.replica_requests.specs.declared.outcome.Outcome.{Outcome}
use Rattle.replica_requests.specs.declared.outcome.Outcome.TheVariants as came
use Rattle.replica_requests.specs.SessionReceipts.{HasReceipt, HasReceiptOf, ReceiptsGrow, receipts_after}

-- ---- they grow

pub grow_none : (receipts : List Receipt) → ReceiptsGrow receipts receipts
grow_none receipts = ([], sym (append-nil receipts))

pub grow_then : (a b c : List Receipt) → ReceiptsGrow a b → ReceiptsGrow b c → ReceiptsGrow a c
grow_then a b c x y = (x.0 ++ y.0, y.1 ∙ ap (λ (t : List Receipt). t ++ y.0) x.1 ∙ append_assoc a x.0 y.0)

grow_by_answer : (receipts : List Receipt) (a : Answer) → ReceiptsGrow receipts (with_receipt receipts a)
grow_by_answer receipts (Voted receipt) = (receipt ∷ [], refl)
grow_by_answer receipts Raised = grow_none receipts
grow_by_answer receipts Held = grow_none receipts

-- by the receipt of an outcome, if it has one
pub grow_after : (receipts : List Receipt) (o : Outcome) → ReceiptsGrow receipts (receipts_after receipts o)
grow_after receipts (came.Replied reply) = grow_by_answer receipts reply.act
grow_after receipts (came.TimedOut view) = grow_none receipts
grow_after receipts (came.RefusedHeader refusal) = grow_none receipts
grow_after receipts (came.RefusedCertificate refusal) = grow_none receipts
grow_after receipts (came.RefusedBlock refusal) = grow_none receipts
grow_after receipts (came.RefusedByDesk refusal) = grow_none receipts

-- what grows keeps what it has
pub kept_by_growth : (old new : List Receipt) → ReceiptsGrow old new → (r : Receipt) → Contains old r → Contains new r
kept_by_growth old new grown r h = subst (λ (rs : List Receipt). Contains rs r) (sym grown.1) (Contains-append_left old grown.0 r h)

-- ---- the receipt of a vote is among them

among_more_of_answer : (receipts more : List Receipt) (a : Answer) → ((r : Receipt) → Contains receipts r → Contains more r) → HasReceiptOf receipts a → HasReceiptOf more a
among_more_of_answer receipts more (Voted receipt) keeps h = keeps receipt h
among_more_of_answer receipts more Raised keeps h = tt
among_more_of_answer receipts more Held keeps h = tt

-- a vote whose receipt is among some has it among more
pub has_receipt_among_more : (receipts more : List Receipt) (o : Outcome) → ((r : Receipt) → Contains receipts r → Contains more r) → HasReceipt receipts o → HasReceipt more o
has_receipt_among_more receipts more (came.Replied reply) keeps h = among_more_of_answer receipts more reply.act keeps h
has_receipt_among_more receipts more (came.TimedOut view) keeps h = tt
has_receipt_among_more receipts more (came.RefusedHeader refusal) keeps h = tt
has_receipt_among_more receipts more (came.RefusedCertificate refusal) keeps h = tt
has_receipt_among_more receipts more (came.RefusedBlock refusal) keeps h = tt
has_receipt_among_more receipts more (came.RefusedByDesk refusal) keeps h = tt

has_receipt_of_answer : (receipts : List Receipt) (a : Answer) → HasReceiptOf (with_receipt receipts a) a
has_receipt_of_answer receipts (Voted receipt) = Contains-push receipts receipt
has_receipt_of_answer receipts Raised = tt
has_receipt_of_answer receipts Held = tt

-- the receipt of an outcome is there after it
pub has_receipt_after : (receipts : List Receipt) (o : Outcome) → HasReceipt (receipts_after receipts o) o
has_receipt_after receipts (came.Replied reply) = has_receipt_of_answer receipts reply.act
has_receipt_after receipts (came.TimedOut view) = tt
has_receipt_after receipts (came.RefusedHeader refusal) = tt
has_receipt_after receipts (came.RefusedCertificate refusal) = tt
has_receipt_after receipts (came.RefusedBlock refusal) = tt
has_receipt_after receipts (came.RefusedByDesk refusal) = tt
