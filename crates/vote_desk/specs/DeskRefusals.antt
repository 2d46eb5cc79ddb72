-- When a desk refuses: for each call its first refusal whose case holds. `Memory` comes where a growth was refused,
-- `Device` where a disk failed.
use Rattle.std.specs.Prelude.{◌≡◌, ◌≢◌, ◌<◌, ◌≤◌, ◌⊎◌, ℕ, List, ◌∷◌, true, false, length}
use Rattle.blocks.specs.Committees.{n_of}
use Rattle.blocks.specs.Genesis.{genesis_of}
use Rattle.blocks.specs.Headers.{Header}
use Rattle.lmots.specs.declared.keys.PrivateSeed.{PrivateSeed}
use Rattle.replica_core.specs.declared.plan.Act.{Act}
use Rattle.replica_core.specs.declared.plan.Act.TheVariants as act
use Rattle.replica_core.specs.declared.refusal.CoreRefusal.TheVariants as core
use Rattle.replica_core.specs.Admission.{IsAdmissible, IsCoreRefusal}
use Rattle.replica_core.specs.Cores.{Core as CoreValue}
use Rattle.replica_core.specs.Plans.{IsChainOf, IsActOn}
use Rattle.base_wire.specs.declared.limits.TheConstants.{MOST_ENTRIES}
use Rattle.key_index_store.specs.State.{IndexState}
use Rattle.key_index_store.specs.Indices.{limit_of}
use Rattle.key_index_store.specs.declared.error.IndexError.{IndexError}
use Rattle.key_index_store.specs.declared.error.IndexError.TheVariants as indices
use Rattle.vote_log.specs.Logs.{LogState}
use Rattle.vote_log.specs.declared.log_error.LogError.{LogError}
use Rattle.vote_log.specs.declared.log_error.LogError.TheVariants as log
use Rattle.vote_desk.specs.declared.desk_error.DeskError.{DeskError}
use Rattle.vote_desk.specs.declared.desk_error.DeskError.TheVariants.{Memory, Core, KeySpent, LogFull, Device, Stopped, ReceiptMismatch}
use Rattle.vote_desk.specs.declared.start_error.StartError.{StartError}
use Rattle.vote_desk.specs.declared.start_error.StartError.TheVariants as start
use Rattle.vote_desk.specs.Desks.{DeskView, AreKeysOf}

-- ---- a delivery

-- the number that docs/REFUSALS.md gives a refusal
abbrev pub desk_error_number : DeskError → ℕ
desk_error_number Memory = 1
desk_error_number (Core refusal) = 2
desk_error_number KeySpent = 3
desk_error_number LogFull = 4
desk_error_number Device = 5
desk_error_number Stopped = 6
desk_error_number ReceiptMismatch = 7

-- neither the log nor the index store is stopped
pub record IsRunning {D : Type 0} (d : DeskView D) : Type 0 where
  pub log : d.log.stopped ≡ false
  pub indices : d.indices.stopped ≡ false

-- one of the two is
abbrev pub IsStopped : {D : Type 0} → DeskView D → Type 0
IsStopped d = (d.log.stopped ≡ true) ⊎ (d.indices.stopped ≡ true)

-- the core plans this act for the block
abbrev pub MustDo : CoreValue → Header → Act → Type 0
MustDo c b a = (p : Header) × (below : List Header) × IsChainOf c b (p ∷ below) × IsActOn c.genesis c.state b (p ∷ below) a

-- the desk runs, and the core plans this act for the block, which passes its tests
pub record Asks {D : Type 0} (d : DeskView D) (b : Header) (a : Act) : Type 0 where
  pub running : IsRunning d
  pub admissible : IsAdmissible d.core b
  pub must : MustDo d.core b a

-- the log has room for one entry more
abbrev pub HasRoom : {D : Type 0} → LogState D → Type 0
HasRoom log = length log.steps < MOST_ENTRIES

-- there is what an act needs: room in the log for what is stored, and an index for a vote
abbrev pub HasRoomTo : {D : Type 0} → LogState D → IndexState D → Act → Type 0
HasRoomTo log store act.Vote = HasRoom log × (store.mark < limit_of store.keys)
HasRoomTo log store act.Raise = HasRoom log
HasRoomTo log store act.Pass = Unit {0}

-- the desk runs, the block passes the core's tests, and there is what an act needs
pub record MayDo {D : Type 0} (d : DeskView D) (b : Header) (a : Act) : Type 0 where
  pub running : IsRunning d
  pub admissible : IsAdmissible d.core b
  pub room : HasRoomTo d.log d.indices a

-- the core plans an act that is stored
abbrev pub AsksToStore : {D : Type 0} → DeskView D → Header → Type 0
AsksToStore d b = Asks d b act.Vote ⊎ Asks d b act.Raise

-- .. and there is room to do it
abbrev pub Stores : {D : Type 0} → DeskView D → Header → Type 0
Stores d b = (Asks d b act.Vote × HasRoomTo d.log d.indices act.Vote) ⊎ (Asks d b act.Raise × HasRoomTo d.log d.indices act.Raise)

-- `deliver_on`
abbrev pub IsDeskRefusal : {D : Type 0} → DeskView D → Header → DeskError → Type 0
IsDeskRefusal d b Memory = IsRunning d × IsAdmissible d.core b
IsDeskRefusal d b Stopped = IsStopped d
IsDeskRefusal d b (Core refusal) = IsRunning d × (refusal ≢ core.Memory) × IsCoreRefusal refusal d.core b
IsDeskRefusal d b LogFull = AsksToStore d b × (length d.log.steps ≡ MOST_ENTRIES)
IsDeskRefusal d b KeySpent = Asks d b act.Vote × HasRoom d.log × (limit_of d.indices.keys ≤ d.indices.mark)
IsDeskRefusal d b Device = Stores d b
IsDeskRefusal d b ReceiptMismatch = ⊥

-- ---- parts of a delivery

-- what a refusal of the log means to the desk
abbrev pub from_log : LogError → DeskError
from_log log.Memory = Memory
from_log log.Full = LogFull
from_log log.Stopped = Stopped
from_log _ = Device

-- what a refusal of the index store means to the desk
abbrev pub from_indices : IndexError → DeskError
from_indices indices.Memory = Memory
from_indices indices.Spent = KeySpent
from_indices indices.Stopped = Stopped
from_indices _ = Device

-- planning fails
abbrev pub IsPlanRefusal : {D : Type 0} → DeskView D → Header → DeskError → Type 0
IsPlanRefusal d b Device = ⊥
IsPlanRefusal d b refusal = IsDeskRefusal d b refusal

-- an act has no room
abbrev pub IsRoomRefusal : {D : Type 0} → LogState D → IndexState D → Act → DeskError → Type 0
IsRoomRefusal log store a LogFull = (a ≢ act.Pass) × (length log.steps ≡ MOST_ENTRIES)
IsRoomRefusal log store a KeySpent = (a ≡ act.Vote) × HasRoom log × (limit_of store.keys ≤ store.mark)
IsRoomRefusal log store a _ = ⊥

-- drawing an index or storing an entry fails, where log and store run and have room
abbrev pub IsStorageRefusal : DeskError → Type 0
IsStorageRefusal Memory = Unit {0}
IsStorageRefusal Device = Unit {0}
IsStorageRefusal _ = ⊥

-- ---- opening

-- the number that docs/REFUSALS.md gives a refusal
abbrev pub start_error_number : StartError → ℕ
start_error_number start.Memory = 1
start_error_number start.UnknownReplica = 2
start_error_number start.WrongKey = 3
start_error_number start.WrongChain = 4
start_error_number start.Stopped = 5

-- what a desk can be opened with: the replica's keys and the indices of as many keys, a log of the committee's chain, and
-- neither log nor index store is stopped
pub record IsStartable {D : Type 0} (committee : List ℕ) (replica : ℕ) (seeds : List PrivateSeed) (log : LogState D) (store : IndexState D) : Type 0 where
  pub keys : AreKeysOf committee replica seeds store.keys
  pub chain : log.genesis ≡ genesis_of committee
  pub log_runs : log.stopped ≡ false
  pub store_runs : store.stopped ≡ false

-- `start` and `open`: the first test that these fail
abbrev pub IsStartRefusal : {D : Type 0} → List ℕ → ℕ → List PrivateSeed → LogState D → IndexState D → StartError → Type 0
IsStartRefusal committee replica seeds log store start.Memory = IsStartable committee replica seeds log store
IsStartRefusal committee replica seeds log store start.UnknownReplica = n_of committee ≤ replica
IsStartRefusal committee replica seeds log store start.WrongKey = (replica < n_of committee) × (AreKeysOf committee replica seeds store.keys → ⊥)
IsStartRefusal committee replica seeds log store start.WrongChain = AreKeysOf committee replica seeds store.keys × (log.genesis ≢ genesis_of committee)
IsStartRefusal committee replica seeds log store start.Stopped =
    AreKeysOf committee replica seeds store.keys × (log.genesis ≡ genesis_of committee) × ((log.stopped ≡ true) ⊎ (store.stopped ≡ true))
