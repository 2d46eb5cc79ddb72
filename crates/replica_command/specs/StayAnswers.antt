-- What a stay answers to a request, and how it ends.
use Rattle.std.specs.Prelude.{◌≡◌, ◌≢◌, ℕ, List, [], ◌∷◌}
use Rattle.blocks.specs.Replica.{Stored}
use Rattle.stable_log.specs.declared.disk.Disk.{Ghosts}
use Rattle.vote_desk.specs.declared.desk_error.DeskError.TheVariants as desk
use Rattle.replica_requests.specs.Answers.{IsAnswerTo}
use Rattle.replica_requests.specs.declared.outcome.Outcome.TheVariants as came
use Rattle.replica_requests.specs.declared.outcome_line.LineOutcome.{LineOutcome}
use Rattle.replica_requests.specs.declared.outcome_line.LineOutcome.TheVariants as line
use Rattle.replica_requests.specs.declared.request_line.LineRequest.{LineRequest}
use Rattle.replica_requests.specs.declared.request_line.LineRequest.TheVariants as asks
use Rattle.replica_command.specs.declared.staying.Ending.{Ending}
use Rattle.replica_command.specs.declared.staying.Ending.TheVariants.{Done, Stopped}

-- ---- answers

-- what may come of a line: of what it asks for, or that it asks for nothing
abbrev pub IsLineAnswer : {D : Type 0} → Ghosts D → List ℕ → ℕ → List Stored → LineRequest → LineOutcome → Type 0
IsLineAnswer disk committee replica opening (asks.Asked request) (line.Came outcome) = IsAnswerTo disk committee replica opening request outcome
IsLineAnswer disk committee replica opening (asks.Asked request) line.BadLine = ⊥
IsLineAnswer disk committee replica opening asks.BadLine outcome = outcome ≡ line.BadLine

-- .. where it is no want of memory: then the worker gives up
pub record IsStayAnswer {D : Type 0} (disk : Ghosts D) (committee : List ℕ) (replica : ℕ) (opening : List Stored) (request : LineRequest) (outcome : LineOutcome) : Type 0 where
  pub answer : IsLineAnswer disk committee replica opening request outcome
  pub not_memory : outcome ≢ line.Came (came.RefusedByDesk desk.Memory)

-- ---- endings

-- stopped, where the desk refused since a disk failed then or before
abbrev pub ending_of : LineOutcome → Ending
ending_of (line.Came (came.RefusedByDesk desk.Device)) = Stopped
ending_of (line.Came (came.RefusedByDesk desk.Stopped)) = Stopped
ending_of _ = Done

-- stopped, where one of the two is
abbrev pub both_endings : Ending → Ending → Ending
both_endings Stopped then = Stopped
both_endings Done then = then

-- stopped, where one of the outcomes is
abbrev pub ending_of_all : List LineOutcome → Ending
ending_of_all [] = Done
ending_of_all (outcome ∷ rest) = both_endings (ending_of outcome) (ending_of_all rest)
