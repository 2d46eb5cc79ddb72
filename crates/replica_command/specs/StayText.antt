-- What a stay prints.
use Rattle.std.specs.Prelude.{◌≡◌, ◌<◌, ◌-◌, ◌^◌, ℕ, List, ◌++◌, Option, Some, IfSome, codes, decimal, length, take}
use Rattle.std.specs.List.{All, AllZip, flat_map, slice_get}
use Rattle.blocks.specs.Replica.{Stored}
use Rattle.stable_log.specs.declared.disk.Disk.{Ghosts}
use Rattle.base_streams.specs.Streams.{Wrote}
use Rattle.vote_desk.specs.declared.reply.Receipt.{Receipt}
use Rattle.replica_requests.specs.LineReading.{IsWhatWasRead}
use Rattle.replica_requests.specs.OutcomeLines.{answer_line}
use Rattle.replica_requests.specs.declared.outcome_line.LineOutcome.{LineOutcome}
use Rattle.replica_requests.specs.declared.request_line.LineRequest.{LineRequest}
use Rattle.replica_command.specs.Dealing.{IsOutcomeAt}
use Rattle.replica_command.specs.LineReceipts.{HasLineReceipt}
use Rattle.replica_command.specs.StayAnswers.{IsStayAnswer, ending_of_all}
use Rattle.replica_command.specs.declared.staying.Ending.{Ending}
use Rattle.replica_command.specs.declared.worker.Answered.{Answered}

-- a line for each outcome
abbrev pub answers : List LineOutcome → List ℕ
answers outcomes = flat_map answer_line outcomes

-- "closed N"
abbrev pub closed_line : ℕ → List ℕ
closed_line count = codes "closed " ++ decimal count ++ codes "\n"

-- as many outcomes as this were printed: at each place the one that a worker has under the number of the place
pub record IsPrinted (before after : Option (List ℕ)) (all : List (List Answered)) (count : ℕ) (ending : Ending) : Type 0 where
  pub outcomes : List LineOutcome
  pub many : length outcomes ≡ count
  pub found : (k : ℕ) (outcome : LineOutcome) → slice_get outcomes k ≡ Some outcome → IsOutcomeAt all k outcome
  pub ends : ending ≡ ending_of_all outcomes
  pub wrote : Wrote before after (answers outcomes)

-- of a whole stay there were printed one outcome of each request, in order, and the number of the log's entries: the desk
-- was opened with the first `opened` of these, each vote's receipt is among those of the desk, and the stay was stopped
-- where one of the outcomes says so
pub record IsStayPrinted {D : Type 0} (disk : Ghosts D) (before after : Option (List ℕ)) (committee : List ℕ) (replica opened : ℕ) (steps : List Stored) (requests : List LineRequest) (receipts : List Receipt) (ending : Ending) : Type 0 where
  pub outcomes : List LineOutcome
  pub each : AllZip (IsStayAnswer disk committee replica (take opened steps)) requests outcomes
  pub backed : All (HasLineReceipt receipts) outcomes
  pub ends : ending ≡ ending_of_all outcomes
  pub wrote : Wrote before after (answers outcomes ++ closed_line (length steps))

-- these were read of a feed that tells what it has left, if that is not more than can be counted
abbrev pub AreRequestsRead : Option (List ℕ) → Option (List ℕ) → ℕ → ℕ → List LineRequest → Type 0
AreRequestsRead before after failures failures' requests =
    IfSome before (λ text. length text < 2 ^ 64 - 1 → IsWhatWasRead text after failures failures' requests)
