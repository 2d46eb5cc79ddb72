-- The core of a replica: its state, and the headers that it holds.
use Rattle.std.specs.Prelude.{◌≡◌, ◌≤◌, ℕ, List, length}
use Rattle.std.specs.List.{Contains}
use Rattle.replica_core.specs.declared.replica.TheConstants.{MOST_HEADERS}
use Rattle.blocks.specs.Headers.{Header, IsGenesis}
use Rattle.blocks.specs.Chains.{IsLinked, NoCollision}
use Rattle.blocks.specs.Replica.{ReplicaState}
use Rattle.blocks.specs.Replay.{Durable}
use Rattle.replica_core.specs.Tables.{AllDiffer}

-- genesis, the replica's state, the headers in the order in which they came to be held, and how many more
-- there is memory for
pub record Core : Type 0 where
  pub genesis : Header
  pub state : ReplicaState
  pub headers : List Header
  pub room : ℕ

-- held headers: genesis and others, each with its whole chain, no two of one id, each once, and 65,536 at
-- the most
pub record IsHeaderTree (genesis : Header) (hs : List Header) : Type 0 where
  pub is_genesis : IsGenesis genesis
  pub root : Contains hs genesis
  pub linked : (h : Header) → Contains hs h → IsLinked hs genesis h
  pub apart : NoCollision hs
  pub once : AllDiffer hs
  pub most : length hs ≤ MOST_HEADERS

-- what outlives a restart, with a vote view
abbrev pub state_of : ℕ → Durable → ReplicaState
state_of vote_view d = record {
  vote_view = vote_view;
  stored_vote_view = d.stored_vote_view;
  lock_id = d.lock_id;
  lock_view = d.lock_view;
}

-- the state after a restart: the vote view is the stored one
abbrev pub restarted_with : Durable → ReplicaState
restarted_with d = state_of d.stored_vote_view d

-- the same but for the room
pub record IsSameCore (old new : Core) : Type 0 where
  pub genesis : new.genesis ≡ old.genesis
  pub state : new.state ≡ old.state
  pub headers : new.headers ≡ old.headers
