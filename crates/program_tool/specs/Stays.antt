-- What a replica prints.
use Rattle.std.specs.Prelude.{◌≡◌, ℕ, List, Option, Some, None, Bool, length}
use Rattle.blocks.specs.Committees.{IsCommittee}
use Rattle.blocks.specs.Replica.{Stored}
use Rattle.stable_log.specs.declared.disk.Disk.{Ghosts}
use Rattle.base_streams.specs.declared.feed.Feed.{Ghosts as FeedGhosts}
use Rattle.vote_desk.specs.declared.reply.Receipt.{Receipt}
use Rattle.log_server.specs.Answers.{IsServed}
use Rattle.replica_requests.specs.declared.request_line.LineRequest.{LineRequest}
use Rattle.replica_command.specs.StayText.{AreRequestsRead, IsStayPrinted}
use Rattle.replica_command.specs.declared.staying.Ending.{Ending}
use Rattle.replica_command.specs.declared.staying.Ending.TheVariants.{Done, Stopped}
use Rattle.program_words.specs.declared.command.Service.{Service}

-- these were read of a feed
abbrev pub AreReadOf : {R : Type 0} → FeedGhosts R → (old new : R) → List LineRequest → Type 0
AreReadOf feed old new requests = AreRequestsRead (feed.rest old) (feed.rest new) (feed.failed old) (feed.failed new) requests

-- under some committee the outcomes of a whole stay of this replica, over such disks, of requests that were read, which
-- ended so and left these steps in the log
pub record IsRunPrinted {D : Type 0} (disk : Ghosts D) (AreRead : List LineRequest → Type 0) (replica : ℕ) (before after : Option (List ℕ)) (steps : List Stored) (ending : Ending) : Type 0 where
  pub committee : List ℕ
  pub is_committee : IsCommittee committee
  pub opened : ℕ
  pub requests : List LineRequest
  pub read : AreRead requests
  pub receipts : List Receipt
  pub stay : IsStayPrinted disk before after committee replica opened steps requests receipts ending

-- .. that was stopped: one of them says so
abbrev pub IsStopPrinted : {D : Type 0} → Ghosts D → (List LineRequest → Type 0) → ℕ → Option (List ℕ) → Option (List ℕ) → Type 0
IsStopPrinted disk AreRead replica before after = (steps : List Stored) × IsRunPrinted disk AreRead replica before after steps Stopped

-- what came of requests for a log of so many entries, as many as were asked to be served
abbrev pub AreServed : Option Service → ℕ → Option (List ℕ) → Option (List ℕ) → Type 0
AreServed None entries before after = after ≡ before
AreServed (Some service) entries before after = (stopped : Bool) × IsServed stopped entries service.requests.count before after

-- .. that was not stopped, and then what came of requests for the log, if it is to be handed out
pub record IsReplicaDone {D : Type 0} (disk : Ghosts D) (AreRead : List LineRequest → Type 0) (replica : ℕ) (service : Option Service) (before after : Option (List ℕ)) : Type 0 where
  pub middle : Option (List ℕ)
  pub steps : List Stored
  pub run : IsRunPrinted disk AreRead replica before middle steps Done
  pub served : AreServed service (length steps) middle after
