-- The desk of a replica: what contracts see of it, and what it keeps from one call to the next.
use Rattle.std.specs.Prelude.{◌≡◌, ◌<◌, ◌≤◌, ◌⊎◌, ◌+◌, ◌-◌, ◌*◌, ◌++◌, ◌||◌, ℕ, List, [], ◌∷◌, Option, Some, None, IfSome, Bool, false, length, drop, slice_index_or, if◌then◌else◌}
use Rattle.std.specs.List.{All, AllPairs, count_by}
use Rattle.lmots.specs.declared.keys.PrivateSeed.{PrivateSeed}
use Rattle.lms_tree.specs.Tree.{tree_root}
use Rattle.base_wire.specs.Pieces.{number_at}
use Rattle.blocks.specs.Headers.{Header}
use Rattle.blocks.specs.Committees.{n_of, keys_of, key_id_at, root_at}
use Rattle.blocks.specs.Genesis.{chain_id_of, genesis_of}
use Rattle.blocks.specs.Replica.{Stored, timed_out}
use Rattle.blocks.specs.Replay.{FitsOpening, durable_of, replay}
use Rattle.replica_core.specs.Cores.{Core, restarted_with}
use Rattle.replica_core.specs.Restarts.{HoldsLinked}
use Rattle.replica_core.specs.Tables.{HasId}
use Rattle.key_index_store.specs.State.{IndexState}
use Rattle.key_index_store.specs.Indices.{limit_of}
use Rattle.base_wire.specs.declared.limits.TheConstants.{MOST_ENTRIES}
use Rattle.vote_desk.specs.declared.parts.Left.{Left}
use Rattle.vote_desk.specs.declared.parts.DeskStatus.{DeskStatus}
use Rattle.key_index_store.specs.declared.store.TheConstants.{INDICES}
use Rattle.log_format.specs.EntryText.{Entry, IsEntry, stored_in}
use Rattle.log_format.specs.declared.entry.KeyedSignature.{KeyedSignature}
use Rattle.vote_log.specs.Logs.{AreListed, LogState, StandsForEntries, LeavesEntries}

-- what contracts see of a desk: the replica's core, the seeds of its keys, their indices, its log, and how many votes
-- were released since it was opened
pub record DeskView (D : Type 0) : Type 0 where
  pub core : Core
  pub seeds : List PrivateSeed
  pub indices : IndexState D
  pub log : LogState D
  pub released : ℕ

abbrev pub desk_of : {D : Type 0} → Core → List PrivateSeed → IndexState D → LogState D → ℕ → DeskView D
desk_of core seeds indices log released = record { core = core; seeds = seeds; indices = indices; log = log; released = released }

-- what is left of the indices, where the index store runs, and of the log's room
abbrev pub left_of : {D : Type 0} → DeskView D → Left
left_of d = record {
  indices = if d.indices.stopped then 0 else limit_of d.indices.keys - d.indices.mark;
  entries = MOST_ENTRIES - length d.log.steps;
}

-- whether the log or the index store is stopped
abbrev pub is_stopped : {D : Type 0} → DeskView D → Bool
is_stopped d = d.log.stopped || d.indices.stopped

-- what a desk tells of itself
abbrev pub status_of : {D : Type 0} → DeskView D → DeskStatus
status_of d = record {
  vote_view = d.core.state.vote_view;
  stored_vote_view = d.core.state.stored_vote_view;
  lock = record { id = d.core.state.lock_id; view = d.core.state.lock_view };
  headers = length d.core.headers;
  entries = length d.log.steps;
  left = left_of d;
  stopped = is_stopped d;
}

-- a header of this id is held
abbrev pub HoldsId : {D : Type 0} → DeskView D → List ℕ → Type 0
HoldsId d id = (h : Header) × HasId d.core.headers id h

-- the desk after a timeout of this view
abbrev pub timed_out_at : {D : Type 0} → DeskView D → ℕ → DeskView D
timed_out_at d view = record d { core = record d.core { state = timed_out d.core.state view } }

-- ---- votes and their indices

-- how many of the entries are votes
abbrev pub vote_count : List Stored → ℕ
vote_count list = count_by (λ (x : Stored). x.voted) list

-- the index that a signature under this key shows: each key has 1,024, and the signature begins with its own number
-- among them
abbrev pub index_of : KeyedSignature → ℕ
index_of signed = INDICES * signed.key + number_at 4 signed.signature 0

-- before these the index of a vote, if there is one
abbrev pub with_index : Option KeyedSignature → List ℕ → List ℕ
with_index (Some signed) rest = index_of signed ∷ rest
with_index None rest = rest

-- the indices of the votes among these entries, in order
abbrev pub indices_in : List Entry → List ℕ
indices_in [] = []
indices_in (e ∷ es) = with_index e.own (indices_in es)

-- they rise, and lie below the mark
pub record AreRising (mark : ℕ) (indices : List ℕ) : Type 0 where
  pub rise : AllPairs (λ i j. i < j) indices
  pub below : All (λ i. i < mark) indices

-- ---- the keys

-- the seed of key k, for k below their number
abbrev pub seed_of : List PrivateSeed → ℕ → PrivateSeed
seed_of seeds k = slice_index_or seeds k (record { key_id = []; seed = [] })

-- the seed's key is key k of this replica
pub record IsKeyOf (committee : List ℕ) (replica k : ℕ) (seed : PrivateSeed) : Type 0 where
  pub key_id : seed.key_id ≡ key_id_at committee replica k
  pub root : tree_root seed.key_id seed.seed ≡ root_at committee replica k

-- the seeds are those of this replica's keys, in order, and there are indices of as many keys
pub record AreKeysOf (committee : List ℕ) (replica : ℕ) (seeds : List PrivateSeed) (keys : ℕ) : Type 0 where
  pub known : replica < n_of committee
  pub as_many : length seeds ≡ keys_of committee replica
  pub indices : keys ≡ keys_of committee replica
  pub each : (k : ℕ) → k < keys_of committee replica → IsKeyOf committee replica k (seed_of seeds k)

-- ---- what a crash leaves

-- an image of the log's list, or of that list with one entry more, which fits as the list does
abbrev pub IsFittingImage : {D : Type 0} → List Header → List Stored → LogState D → List ℕ → Type 0
IsFittingImage hs opening log image =
    StandsForEntries image log.entries
    ⊎ ((e : Entry) × IsEntry e × StandsForEntries image (log.entries ++ e ∷ []) × FitsOpening hs log.genesis opening (log.steps ++ stored_in e ∷ []))

-- ---- what a desk keeps

-- the list fits the opening list and the core's headers; it is the history of the lock and the stored vote view;
-- each vote behind the opening list was released
pub record KeepsList (opening : List Stored) (core : Core) (genesis : Header) (steps : List Stored) (released : ℕ) : Type 0 where
  pub one_genesis : genesis ≡ core.genesis
  pub fits : FitsOpening core.headers core.genesis opening steps
  pub replayed : replay core.genesis steps ≡ durable_of core.state
  pub covers : core.state.stored_vote_view ≤ core.state.vote_view
  pub counted : vote_count (drop (length opening) steps) ≡ released

-- where the disk tells its bytes: the entries are those of the list, the indices of the votes behind the opening
-- list rise and lie below all that the store still gives, and a crash leaves the list, if the log is stopped perhaps
-- with one entry more
pub record KeepsEntries {D : Type 0} (images : List ℕ → Type 0) (opening : List Stored) (hs : List Header) (mark : ℕ) (log : LogState D) : Type 0 where
  pub listed : AreListed log.entries log.steps
  pub indices_rise : AreRising mark (indices_in (drop (length opening) log.entries))
  pub images_fit : (image : List ℕ) → images image → IsFittingImage hs opening log image
  pub durable : log.stopped ≡ false → LeavesEntries images log.entries

pub record KeepsDesk {D : Type 0} (bytes : D → Option (List ℕ)) (images : D → List ℕ → Type 0) (committee : List ℕ) (replica : ℕ) (opening : List Stored) (d : DeskView D) : Type 0 where
  pub keys : AreKeysOf committee replica d.seeds d.indices.keys
  pub genesis : d.core.genesis ≡ genesis_of committee
  pub list : KeepsList opening d.core d.log.genesis d.log.steps d.released
  pub entries : IfSome (bytes d.log.disk) (λ _. KeepsEntries (images d.log.disk) opening d.core.headers d.indices.mark d.log)

-- what it has beside what contracts see: its replica's number, the id of its chain, and how many entries the opening list
-- has
pub record Beside : Type 0 where
  pub replica : ℕ
  pub chain : List ℕ
  pub opened : ℕ

-- a desk that keeps so, and what it has beside is of this committee, replica and opening list
pub record KeepsState {D : Type 0} (Keeps : DeskView D → Type 0) (committee : List ℕ) (replica : ℕ) (opening : List Stored) (d : DeskView D) (here : Beside) : Type 0 where
  pub desk : Keeps d
  pub replica_is : here.replica ≡ replica
  pub chain_is : here.chain ≡ chain_id_of committee
  pub opened_is : here.opened ≡ length opening

-- ---- a desk that was just opened

-- the core knows what a restart knows of the log's list; log, indices and keys are those that were given
pub record IsOpened {D : Type 0} (committee : List ℕ) (seeds : List PrivateSeed) (indices : IndexState D) (log : LogState D) (d : DeskView D) : Type 0 where
  pub genesis : d.core.genesis ≡ genesis_of committee
  pub state : d.core.state ≡ restarted_with (replay (genesis_of committee) log.steps)
  pub headers : HoldsLinked (genesis_of committee) log.steps d.core.headers
  pub seeds_are : d.seeds ≡ seeds
  pub indices_are : d.indices ≡ indices
  pub log_is : d.log ≡ log
  pub none : d.released ≡ 0

-- ---- a desk that was closed

-- all but the count is the desk's, and it keeps what a desk keeps
pub record IsClosed {D : Type 0} (Keeps : DeskView D → Type 0) (d closed : DeskView D) : Type 0 where
  pub core_is : closed.core ≡ d.core
  pub seeds_are : closed.seeds ≡ d.seeds
  pub indices_are : closed.indices ≡ d.indices
  pub log_is : closed.log ≡ d.log
  pub keeps : Keeps closed
