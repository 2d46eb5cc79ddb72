-- A statement of next keys that the replica signs: what a signature does to a desk, and when it is refused.
use Rattle.std.specs.Prelude.{◌≡◌, ◌≢◌, ◌<◌, ◌≤◌, ◌+◌, ℕ, List, IfSome, true}
use Rattle.base_streams.specs.Counting.{HasFailed}
use Rattle.lmots.specs.declared.keys.PrivateSeed.{PrivateSeed}
use Rattle.lms_tree.specs.Tree.{Verifies, tree_root}
use Rattle.blocks.specs.Committees.{keys_of}
use Rattle.certificates.specs.Statements.{statement_text}
use Rattle.key_index_store.specs.Indices.{key_of, limit_of, q_of}
use Rattle.handover_keys.specs.Endorsements.{IsSigned}
use Rattle.stable_log.specs.declared.disk.Disk.{Ghosts}
use Rattle.vote_desk.specs.declared.desk_error.DeskError.{DeskError}
use Rattle.vote_desk.specs.declared.desk_error.DeskError.TheVariants.{Memory, KeySpent, Device, Stopped}
use Rattle.vote_desk.specs.declared.seal.Seal.{Seal}
use Rattle.vote_desk.specs.Deliveries.{BoundsIndices, RunsOn, signature_at}
use Rattle.vote_desk.specs.DeskRefusals.{IsRunning, IsStopped}
use Rattle.vote_desk.specs.Desks.{DeskView, index_of, seed_of}

-- ---- a seal

-- these bytes, signed under this index
abbrev pub seal_under : ℕ → List PrivateSeed → List ℕ → Seal
seal_under index seeds message = record { key = key_of index; signature = signature_at (seed_of seeds (key_of index)) (q_of index) message }

-- the seal verifies under the key of this seed, on these bytes
abbrev pub IsSealedWith : PrivateSeed → List ℕ → Seal → Type 0
IsSealedWith seed message s = Verifies seed.key_id (tree_root seed.key_id seed.seed) message s.signature

-- the index that a seal shows
abbrev pub index_shown : Seal → ℕ
index_shown s = index_of (record { key = s.key; signature = s.signature })

-- no vote signs these bytes
abbrev pub IsNoVote : List ℕ → Type 0
IsNoVote message = (chain : List ℕ) (view : ℕ) (id : List ℕ) → message ≢ statement_text chain view id

-- ---- what is done

-- the desk runs, and there is an index
pub record MayEndorse {D : Type 0} (d : DeskView D) : Type 0 where
  pub running : IsRunning d
  pub left : d.indices.mark < limit_of d.indices.keys

-- core, log, keys and the count of released votes are as before
pub record IsCoreAndLog {D : Type 0} (old new : DeskView D) : Type 0 where
  pub core : new.core ≡ old.core
  pub seeds : new.seeds ≡ old.seeds
  pub log : new.log ≡ old.log
  pub released : new.released ≡ old.released
  pub keys : new.indices.keys ≡ old.indices.keys

-- the statement is signed with a key of the replica under the one index that is drawn, the next one, and nothing else is done
pub record IsEndorsed {D : Type 0} (committee : List ℕ) (replica : ℕ) (statement : List ℕ) (s : Seal) (old new : DeskView D) : Type 0 where
  pub value : s ≡ seal_under old.indices.mark old.seeds statement
  pub index : index_shown s ≡ old.indices.mark
  pub known : s.key < keys_of committee replica
  pub signed : IsSigned committee replica s.key statement s.signature
  pub drawn : new.indices.mark ≡ old.indices.mark + 1
  pub same : IsCoreAndLog old new

-- ---- refusals

-- `endorse_on`
abbrev pub IsEndorseRefusal : {D : Type 0} → DeskView D → DeskError → Type 0
IsEndorseRefusal d Memory = MayEndorse d
IsEndorseRefusal d Stopped = IsStopped d
IsEndorseRefusal d KeySpent = IsRunning d × (limit_of d.indices.keys ≤ d.indices.mark)
IsEndorseRefusal d Device = MayEndorse d
IsEndorseRefusal d _ = ⊥

-- no index is used up; where the index store's disk failed the desk is stopped, and else all is as before
pub record IsLeftUnsigned {D : Type 0} (failed : D → ℕ) (old new : DeskView D) (e : DeskError) : Type 0 where
  pub same : IsCoreAndLog old new
  pub undrawn : new.indices.mark ≡ old.indices.mark
  pub other : e ≢ Device → new.indices ≡ old.indices
  pub device : e ≡ Device → (new.indices.stopped ≡ true) × HasFailed (failed old.indices.disk) (failed new.indices.disk)

-- ---- under a lock

-- the desk signs so, runs on, and never gives the index again
pub record Endorses {D : Type 0} (disk : Ghosts D) (committee : List ℕ) (replica : ℕ) (statement : List ℕ) (s : Seal) (old new : DeskView D) : Type 0 where
  pub may : MayEndorse old
  pub endorsed : IsEndorsed committee replica statement s old new
  pub runs_on : RunsOn disk old new
  pub not_again : IfSome (disk.bytes old.indices.disk) (λ _. BoundsIndices disk old.indices new.indices)

-- the desk refuses so, and is left so
pub record RefusesToEndorse {D : Type 0} (disk : Ghosts D) (e : DeskError) (old new : DeskView D) : Type 0 where
  pub refused : IsEndorseRefusal old e
  pub left : IsLeftUnsigned disk.failed old new e
  pub not_again : IfSome (disk.bytes old.indices.disk) (λ _. BoundsIndices disk old.indices new.indices)
