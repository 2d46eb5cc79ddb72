-- Marked blocks, of which a chain is to have one (`is_marked` of replica_core).
use Rattle.std.specs.Prelude.{◌≢◌, ◌⊎◌, ℕ, List}
use Rattle.blocks.specs.Headers.{Header}
use Rattle.certificates.specs.BlockChecks.{CheckedBlock}
use Rattle.replica_core.specs.Marks.{HasNoMarkedIn, IsFirstMarkedIn, IsMarked}
use Rattle.replica_core.specs.declared.plan.Act.TheVariants.{Vote}
use Rattle.stable_log.specs.declared.disk.Disk.{Ghosts}
use Rattle.vote_desk.specs.declared.desk_error.DeskError.{DeskError}
use Rattle.vote_desk.specs.declared.reply.Reply.{Reply}
use Rattle.vote_desk.specs.Deliveries.{act_of}
use Rattle.vote_desk.specs.Desks.{DeskView}
use Rattle.vote_desk.specs.SomeDesk.{Refuses, RefusesUnvoted, Replies, RepliesUnvoted}

-- the block is not marked, or none is in the chain below it
abbrev pub IsMarkedOnce : {D : Type 0} → DeskView D → List ℕ → Header → Type 0
IsMarkedOnce d mark b = IsMarked mark b → HasNoMarkedIn d.core mark b.parent

-- the block is marked, and one is in the chain below it
abbrev pub IsMarkedAgain : {D : Type 0} → DeskView D → List ℕ → Header → Type 0
IsMarkedAgain d mark b = IsMarked mark b × ((h : Header) × IsFirstMarkedIn d.core mark b.parent h)

-- a block that is marked again is delivered behind a timeout of its view, so that the reply is no vote; any other by its one event
abbrev pub RepliesOnce : {D : Type 0} → Ghosts D → List ℕ → ℕ → List ℕ → CheckedBlock → Reply → (old new : DeskView D) → Type 0
RepliesOnce disk committee replica mark b reply old new =
    (IsMarkedOnce old mark b.header × Replies disk committee replica b reply old new)
    ⊎ (IsMarkedAgain old mark b.header × (act_of reply.act ≢ Vote) × RepliesUnvoted disk committee replica b reply old new)

abbrev pub RefusesOnce : {D : Type 0} → Ghosts D → List ℕ → Header → DeskError → (old new : DeskView D) → Type 0
RefusesOnce disk mark b e old new =
    (IsMarkedOnce old mark b × Refuses disk b e old new)
    ⊎ (IsMarkedAgain old mark b × RefusesUnvoted disk b e old new)
