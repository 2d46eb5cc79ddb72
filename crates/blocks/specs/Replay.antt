-- The stored list of a replica: what it leaves when it is replayed, when it is legal, and that it is the
-- history of the run that stored it. It holds a block and its parent for each vote and each raised lock,
-- and no header behind them.
use Rattle.std.specs.Prelude.{◌≡◌, ◌⊎◌, ◌↔◌, ◌<◌, ◌≤◌, ◌++◌, ℕ, List, [], ◌∷◌, Bool, true, false, nat_lt, if◌then◌else◌}
use Rattle.std.specs.List.{AllByRecursion}
use Rattle.blocks.specs.Headers.{Header, NamesParent, AreInOrder, IsGenesis}
use Rattle.blocks.specs.Chains.{IsChain, IsChainIn}
use Rattle.blocks.specs.declared.ballot.Ballot.{Ballot}
use Rattle.blocks.specs.Replica.{ballot_on, votes_of, ReplicaState, Event, Vote, Raise, Timeout, Restart, Stored, first_state, IsRun, LockIsIn, CanRaise, raised, end_of, stored_of}

-- ---- replay

-- what outlives a restart: the stored vote view and the locked block
pub record Durable : Type 0 where
  pub stored_vote_view : ℕ
  pub lock_id : List ℕ
  pub lock_view : ℕ

abbrev pub durable_of : ReplicaState → Durable
durable_of s = record { stored_vote_view = s.stored_vote_view; lock_id = s.lock_id; lock_view = s.lock_view }

-- of a new replica
abbrev pub first_durable : Header → Durable
first_durable genesis = durable_of (first_state genesis)

-- with this stored vote view, and locked on the parent's parent where that is younger
abbrev pub moved_to : ℕ → Durable → Header → Durable
moved_to view d parent =
    if nat_lt d.lock_view parent.parent_view
    then record { stored_vote_view = view; lock_id = parent.parent; lock_view = parent.parent_view }
    else record { stored_vote_view = view; lock_id = d.lock_id; lock_view = d.lock_view }

-- what an entry leaves
abbrev pub replay_entry : Durable → Bool → Header → Header → Durable
replay_entry d true block parent = moved_to block.view d parent
replay_entry d false block parent = moved_to d.stored_vote_view d parent

-- what entries leave, one after the other
abbrev pub replay_from : Durable → List Stored → Durable
replay_from d [] = d
replay_from d (x ∷ xs) = replay_from (replay_entry d x.voted x.block x.parent) xs

abbrev pub replay : Header → List Stored → Durable
replay genesis list = replay_from (first_durable genesis) list

-- ---- legal lists

-- a vote is above the stored one, and on the lock or on a parent younger than it; a lock that is raised
-- without a vote is raised
abbrev pub IsLegalEntry : Durable → Bool → Header → Header → Type 0
IsLegalEntry d true block parent =
    (d.stored_vote_view < block.view)
    × ((d.lock_view < block.parent_view) ⊎ ((block.parent ≡ d.lock_id) × (block.parent_view ≡ d.lock_view)))
IsLegalEntry d false block parent = d.lock_view < parent.parent_view

-- each entry is legal after the ones before it
abbrev pub IsLegalFrom : Durable → List Stored → Type 0
IsLegalFrom d [] = Unit {0}
IsLegalFrom d (x ∷ xs) =
    IsLegalEntry d x.voted x.block x.parent × IsLegalFrom (replay_entry d x.voted x.block x.parent) xs

abbrev pub IsLegal : Header → List Stored → Type 0
IsLegal genesis list = IsLegalFrom (first_durable genesis) list

-- ---- the rules need no header behind the parent

-- b's parent is the locked block, by id and view
abbrev pub IsOnLock : ReplicaState → Header → Type 0
IsOnLock s b = (b.parent ≡ s.lock_id) × (b.parent_view ≡ s.lock_view)

-- to extend the locked block or a younger parent is to stand on one of the two
abbrev pub VoteRuleLooksAtTheParent : Type 0
VoteRuleLooksAtTheParent =
    (genesis : Header) (s : ReplicaState) (b p : Header) (ps : List Header) → IsChain genesis b (p ∷ ps)
    → (LockIsIn s (p ∷ ps) ⊎ (s.lock_view < b.parent_view)) ↔ ((s.lock_view < b.parent_view) ⊎ IsOnLock s b)

-- the lock can be raised where the parent names a parent younger than it
abbrev pub RaiseLooksAtTheParent : Type 0
RaiseLooksAtTheParent =
    (genesis : Header) (s : ReplicaState) (b p : Header) (ps : List Header)
    → IsGenesis genesis → IsChain genesis b (p ∷ ps)
    → CanRaise s (p ∷ ps) ↔ (s.lock_view < p.parent_view)

-- the state with the lock on the parent that p names, where that is younger
abbrev pub raised_by_parent : ReplicaState → Header → ReplicaState
raised_by_parent s p =
    if nat_lt s.lock_view p.parent_view
    then (record {
      vote_view = s.vote_view;
      stored_vote_view = s.stored_vote_view;
      lock_id = p.parent;
      lock_view = p.parent_view;
    })
    else s

-- that is the lock that an event leaves
abbrev pub LockLooksAtTheParent : Type 0
LockLooksAtTheParent =
    (genesis : Header) (s : ReplicaState) (b p : Header) (ps : List Header)
    → IsGenesis genesis → IsChain genesis b (p ∷ ps)
    → raised s (p ∷ ps) ≡ raised_by_parent s p

-- ---- the stored list of a run is its history

-- it is legal
abbrev pub StoredListIsLegal : Type 0
StoredListIsLegal =
    (genesis : Header) (run : List Event) → IsGenesis genesis → IsRun genesis run
    → IsLegal genesis (stored_of run)

-- replayed, it leaves the lock and the stored vote view that the run leaves
abbrev pub ReplayIsTheState : Type 0
ReplayIsTheState =
    (genesis : Header) (run : List Event) → IsGenesis genesis → IsRun genesis run
    → replay genesis (stored_of run) ≡ durable_of (end_of genesis run)

-- the votes in a stored list
abbrev pub ballot_in : Bool → Header → List Ballot
ballot_in true b = ballot_on b ∷ []
ballot_in false b = []

abbrev pub ballots_in : List Stored → List Ballot
ballots_in [] = []
ballots_in (x ∷ xs) = ballot_in x.voted x.block ++ ballots_in xs

-- they are the votes of the run
abbrev pub VotesAreStored : Type 0
VotesAreStored =
    (genesis : Header) (run : List Event) → IsGenesis genesis → IsRun genesis run
    → votes_of run ≡ ballots_in (stored_of run)

-- as a run goes on its lock and its stored vote view never fall
abbrev pub LockNeverFalls : Type 0
LockNeverFalls =
    (genesis : Header) (run more : List Event) → IsRun genesis (run ++ more)
    → ((end_of genesis run).lock_view ≤ (end_of genesis (run ++ more)).lock_view)
    × ((end_of genesis run).stored_vote_view ≤ (end_of genesis (run ++ more)).stored_vote_view)

-- the vote view is never below the stored one
abbrev pub VoteViewCoversTheStored : Type 0
VoteViewCoversTheStored =
    (genesis : Header) (run : List Event) → IsRun genesis run
    → (end_of genesis run).stored_vote_view ≤ (end_of genesis run).vote_view

-- ---- a run goes on from its stored list

abbrev pub event_on : Bool → Header → List Header → Event
event_on true b ps = Vote b ps
event_on false b ps = Raise b ps

-- the events that store these entries, each block with a chain of it, and last a timeout
abbrev pub AreEventsOf : Header → ℕ → List Stored → List Event → Type 0
AreEventsOf genesis view [] events = events ≡ Timeout view ∷ []
AreEventsOf genesis view (x ∷ xs) events =
    (ps : List Header) × (rest : List Event)
    × (events ≡ event_on x.voted x.block (x.parent ∷ ps) ∷ rest)
    × IsChain genesis x.block (x.parent ∷ ps)
    × AreEventsOf genesis view xs rest

-- a longer list that is legal continues the run that stored its opening part, from a restart on
abbrev pub RunGoesOn : Type 0
RunGoesOn =
    (genesis : Header) (run events : List Event) (more : List Stored) (view : ℕ)
    → IsGenesis genesis → IsRun genesis run → IsLegal genesis (stored_of run ++ more)
    → AreEventsOf genesis view more events
    → IsRun genesis (run ++ Restart ∷ events) × (stored_of (run ++ Restart ∷ events) ≡ stored_of run ++ more)

-- an entry whose block names its parent, which has a chain among these headers
pub record IsAttached (hs : List Header) (genesis : Header) (x : Stored) : Type 0 where
  pub block_in_order : AreInOrder x.block.parent_view x.block.view
  pub parent_in_order : AreInOrder x.parent.parent_view x.parent.view
  pub names : NamesParent x.block x.parent
  pub chain : List Header
  pub is_chain : IsChainIn hs genesis x.parent chain

-- a legal list that goes on from an opening list with entries that are attached
pub record FitsOpening (hs : List Header) (genesis : Header) (opening list : List Stored) : Type 0 where
  pub legal : IsLegal genesis list
  pub more : List Stored
  pub begins : list ≡ opening ++ more
  pub attached : AllByRecursion (IsAttached hs genesis) more

-- legal entries that are attached have events
abbrev pub AttachedEntriesHaveEvents : Type 0
AttachedEntriesHaveEvents =
    (hs : List Header) (genesis : Header) (view : ℕ) (d : Durable) (more : List Stored)
    → IsLegalFrom d more → AllByRecursion (IsAttached hs genesis) more
    → (events : List Event) × AreEventsOf genesis view more events

-- a list that fits what a run stored is the stored list of a run that goes on from it, by a restart, the events of what
-- was added, and last any timeout
abbrev pub FittedListIsStored : Type 0
FittedListIsStored =
    (hs : List Header) (genesis : Header) (run : List Event) (list : List Stored) (view : ℕ)
    → IsGenesis genesis → IsRun genesis run
    → (fits : FitsOpening hs genesis (stored_of run) list)
    → (events : List Event) × AreEventsOf genesis view fits.more events
    × IsRun genesis (run ++ Restart ∷ events) × (stored_of (run ++ Restart ∷ events) ≡ list)
