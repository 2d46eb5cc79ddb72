-- What workers make of the requests that are dealt to them.
use Rattle.std.proofs.Common.{◌≡◌, ℕ, List, [], ◌∷◌, ◌++◌, sym, subst}
use Rattle.std.specs.List.{All}
use Rattle.std.proofs.lemmas.List.Elements.{All-push, All-weaker}
use Rattle.std.proofs.lemmas.Slice.Zip.{all_zipped_more}
use Rattle.blocks.specs.Replica.{Stored}
use Rattle.stable_log.specs.declared.disk.Disk.{Ghosts}
use Rattle.vote_desk.specs.declared.reply.Receipt.{Receipt}
use Rattle.replica_requests.proofs.Receipts.{kept_by_growth}
use Rattle.replica_command.specs.Dealing.{AreWorked, IsAnswered}
use Rattle.replica_command.specs.LineReceipts.{HasLineReceipt, receipts_after_line}
use Rattle.replica_command.specs.declared.worker.Answered.{Answered}
use Rattle.replica_command.specs.declared.worker.Asked.{Asked}
use Rattle.replica_command.proofs.LineReceipts.{grow_after_line, has_line_receipt_among_more, has_receipt_after_line}

-- one request more was answered
pub worked_one_more : {D : Type 0} (disk : Ghosts D) (committee : List ℕ) (replica : ℕ) (opening : List Stored) (asked : List Asked) (receipts receipts' : List Receipt) (answered : List Answered) (one : Asked) (answer : Answered)
    → AreWorked disk committee replica opening asked receipts answered → IsAnswered disk committee replica opening one answer → receipts' ≡ receipts_after_line receipts answer.outcome
    → AreWorked disk committee replica opening (asked ++ one ∷ []) receipts' (answered ++ answer ∷ [])
worked_one_more disk committee replica opening asked receipts receipts' answered one answer before here e = record {
  each = all_zipped_more (IsAnswered disk committee replica opening) asked answered one answer before.each here;
  backed = subst (λ (rs : List Receipt). All (λ (a : Answered). HasLineReceipt rs a.outcome) (answered ++ answer ∷ [])) (sym e)
      (All-push (λ (a : Answered). HasLineReceipt (receipts_after_line receipts answer.outcome) a.outcome) answered answer
      (All-weaker (λ (a : Answered). HasLineReceipt receipts a.outcome) (λ (a : Answered). HasLineReceipt (receipts_after_line receipts answer.outcome) a.outcome)
      (λ a h. has_line_receipt_among_more receipts (receipts_after_line receipts answer.outcome) a.outcome (kept_by_growth receipts (receipts_after_line receipts answer.outcome) (grow_after_line receipts answer.outcome)) h) answered before.backed)
      (has_receipt_after_line receipts answer.outcome));
}
