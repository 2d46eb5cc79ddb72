-- Requests that are dealt to workers under their numbers, and what came of them.
use Rattle.std.specs.Prelude.{◌≡◌, ℕ, List, Some}
use Rattle.std.specs.List.{All, AllZip, Contains, slice_get}
use Rattle.blocks.specs.Replica.{Stored}
use Rattle.stable_log.specs.declared.disk.Disk.{Ghosts}
use Rattle.vote_desk.specs.declared.reply.Receipt.{Receipt}
use Rattle.replica_requests.specs.declared.outcome_line.LineOutcome.{LineOutcome}
use Rattle.replica_requests.specs.declared.request_line.LineRequest.{LineRequest}
use Rattle.replica_command.specs.LineReceipts.{HasLineReceipt}
use Rattle.replica_command.specs.StayAnswers.{IsStayAnswer}
use Rattle.replica_command.specs.declared.worker.Answered.{Answered}
use Rattle.replica_command.specs.declared.worker.Asked.{Asked}

-- it is the request of its number
abbrev pub IsRequestIn : List LineRequest → Asked → Type 0
IsRequestIn requests asked = slice_get requests asked.number ≡ Some asked.request

-- it has the number of the request, and may come of it
abbrev pub IsAnswered : {D : Type 0} → Ghosts D → List ℕ → ℕ → List Stored → Asked → Answered → Type 0
IsAnswered disk committee replica opening asked answered =
    (answered.number ≡ asked.number) × IsStayAnswer disk committee replica opening asked.request answered.outcome

-- a worker's outcomes: one of each of its requests, in order, and each vote's receipt is its session's
pub record AreWorked {D : Type 0} (disk : Ghosts D) (committee : List ℕ) (replica : ℕ) (opening : List Stored) (asked : List Asked) (receipts : List Receipt) (answered : List Answered) : Type 0 where
  pub each : AllZip (IsAnswered disk committee replica opening) asked answered
  pub backed : All (λ a. HasLineReceipt receipts a.outcome) answered

-- one of the workers has this outcome under this number
abbrev pub IsOutcomeAt : List (List Answered) → ℕ → LineOutcome → Type 0
IsOutcomeAt all number outcome =
    (answered : List Answered) × Contains all answered × Contains answered (record { number = number; outcome = outcome })
