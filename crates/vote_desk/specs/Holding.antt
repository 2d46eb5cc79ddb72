-- A block that is held, whatever the core plans for it: as a replica does whose log has no room for a raised lock.
use Rattle.std.specs.Prelude.{◌≡◌, ◌≢◌, ℕ, List, ◌∷◌}
use Rattle.blocks.specs.Headers.{Header}
use Rattle.blocks.specs.Genesis.{genesis_of}
use Rattle.blocks.specs.Replica.{Pass, Stored, Takes}
use Rattle.replica_core.specs.Admission.{IsAdmissible, IsCoreRefusal}
use Rattle.replica_core.specs.Cores.{IsSameCore}
use Rattle.replica_core.specs.Plans.{HoldsAlso, IsChainOf, committed_of}
use Rattle.replica_core.specs.declared.refusal.CoreRefusal.TheVariants as core
use Rattle.stable_log.specs.Devices.{AtAnyMoment}
use Rattle.stable_log.specs.declared.disk.Disk.{Ghosts}
use Rattle.vote_log.specs.Logs.{StandsForEntries}
use Rattle.vote_desk.specs.declared.desk_error.DeskError.{DeskError}
use Rattle.vote_desk.specs.declared.desk_error.DeskError.TheVariants.{Memory, Core, Stopped}
use Rattle.vote_desk.specs.declared.reply.Answer.TheVariants.{Held}
use Rattle.vote_desk.specs.declared.reply.Reply.{Reply}
use Rattle.vote_desk.specs.DeskRefusals.{IsRunning, IsStopped}
use Rattle.vote_desk.specs.Desks.{DeskView}
use Rattle.vote_desk.specs.Stays.{IsImageAfter, stay_in}

-- ---- what is done

-- log, indices, keys and the count of released votes are as before
pub record IsStill {D : Type 0} (old new : DeskView D) : Type 0 where
  pub seeds : new.seeds ≡ old.seeds
  pub indices : new.indices ≡ old.indices
  pub log : new.log ≡ old.log
  pub released : new.released ≡ old.released

-- the desk runs, and the block passes the core's tests
pub record MayHold {D : Type 0} (d : DeskView D) (b : Header) : Type 0 where
  pub running : IsRunning d
  pub admissible : IsAdmissible d.core b

-- by the chain of the block in the core: the replica passes it by, holds it, and tells what it commits
pub record IsHeldOnly {D : Type 0} (b : Header) (reply : Reply) (old new : DeskView D) : Type 0 where
  pub parent : Header
  pub below : List Header
  pub chain : IsChainOf old.core b (parent ∷ below)
  pub act : reply.act ≡ Held
  pub committed : reply.committed ≡ committed_of (parent ∷ below)
  pub takes : Takes old.core.genesis old.core.state (Pass b (parent ∷ below)) new.core.state
  pub holds : HoldsAlso old.core.headers new.core.headers b
  pub genesis : new.core.genesis ≡ old.core.genesis
  pub still : IsStill old new

-- ---- refusals

-- `hold_on`: what `deliver_on` refuses before it looks for room
abbrev pub IsHoldRefusal : {D : Type 0} → DeskView D → Header → DeskError → Type 0
IsHoldRefusal d b Memory = MayHold d b
IsHoldRefusal d b Stopped = IsStopped d
IsHoldRefusal d b (Core refusal) = IsRunning d × (refusal ≢ core.Memory) × IsCoreRefusal refusal d.core b
IsHoldRefusal d b _ = ⊥

-- all is as before, but for the room that the core may have made
pub record IsUnmoved {D : Type 0} (old new : DeskView D) : Type 0 where
  pub core : IsSameCore old.core new.core
  pub still : IsStill old new

-- ---- a crash

-- a crash at any moment leaves the list, and what one reads in it is found after the stay that the desk was
pub record LeavesListOnly {D : Type 0} (disk : Ghosts D) (committee : List ℕ) (opening : List Stored) (old new : DeskView D) : Type 0 where
  pub any_moment : IsRunning old → AtAnyMoment disk old.log.disk new.log.disk (λ image. StandsForEntries image old.log.entries)
  pub finds : (image : List ℕ) → StandsForEntries image old.log.entries → IsImageAfter (genesis_of committee) (stay_in opening old) image

-- ---- under a lock

-- the desk refuses so, and is left so
pub record RefusesHold {D : Type 0} (b : Header) (e : DeskError) (old new : DeskView D) : Type 0 where
  pub refused : IsHoldRefusal old b e
  pub left : IsUnmoved old new
