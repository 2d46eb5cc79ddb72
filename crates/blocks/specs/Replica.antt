-- A correct replica: its state, the events that it goes through, and its runs. To vote and to lock it
-- follows chained HotStuff (PODC 2019, "Chained HotStuff"), restated over views as this project's
-- profile: a block's parent is always the block that it justifies, a lock is taken on the parent's
-- parent, and timeouts and restarts are events too.
use Rattle.std.specs.Prelude.{◌≡◌, ◌⊎◌, ◌<◌, ◌++◌, ℕ, List, [], ◌∷◌, Bool, true, false, nat_lt, if◌then◌else◌}
use Rattle.std.specs.List.{Contains}
use Rattle.blocks.specs.declared.ballot.Ballot.{Ballot}
use Rattle.blocks.specs.Headers.{Header, header_id}
use Rattle.blocks.specs.Chains.{IsChain}

-- ---- the state

-- the greatest view of a vote, or of a timeout since the last restart; the view of the last vote, which
-- outlives a restart; and the locked block
pub record ReplicaState : Type 0 where
  pub vote_view : ℕ
  pub stored_vote_view : ℕ
  pub lock_id : List ℕ
  pub lock_view : ℕ

-- a new replica: no vote, locked on genesis
abbrev pub first_state : Header → ReplicaState
first_state genesis = record { vote_view = 0; stored_vote_view = 0; lock_id = header_id genesis; lock_view = 0 }

-- ---- the events

-- a block comes with its chain: the headers after the block, down to genesis
pub data Event : Type 0 where
  Vote : (block : Header) (chain : List Header) → Event
  Raise : (block : Header) (chain : List Header) → Event
  Pass : (block : Header) (chain : List Header) → Event
  Timeout : (view : ℕ) → Event
  Restart : Event

-- the locked block stands among these headers
abbrev pub LockIsIn : ReplicaState → List Header → Type 0
LockIsIn s hs = (h : Header) × Contains hs h × (header_id h ≡ s.lock_id) × (h.view ≡ s.lock_view)

-- of the headers after a block, the parent's parent is younger than the lock
abbrev pub CanRaise : ReplicaState → List Header → Type 0
CanRaise s [] = ⊥
CanRaise s (p ∷ []) = ⊥
CanRaise s (p ∷ t ∷ ts) = s.lock_view < t.view

-- a replica votes in a view above its vote view, for a block that extends the locked block or whose
-- parent is younger than it; it may raise its lock, pass a block by, time out and restart
abbrev pub IsAllowed : Header → ReplicaState → Event → Type 0
IsAllowed genesis s (Vote b ps) =
    IsChain genesis b ps × (s.vote_view < b.view) × (LockIsIn s ps ⊎ (s.lock_view < b.parent_view))
IsAllowed genesis s (Raise b ps) = IsChain genesis b ps × CanRaise s ps
IsAllowed genesis s (Pass b ps) = IsChain genesis b ps
IsAllowed genesis s (Timeout v) = Unit {0}
IsAllowed genesis s Restart = Unit {0}

-- ---- what an event leaves

-- locked on this header
abbrev pub locked_on : ReplicaState → Header → ReplicaState
locked_on s t = record {
  vote_view = s.vote_view;
  stored_vote_view = s.stored_vote_view;
  lock_id = header_id t;
  lock_view = t.view;
}

-- the lock becomes the parent's parent, where that is younger
abbrev pub raised : ReplicaState → List Header → ReplicaState
raised s [] = s
raised s (p ∷ []) = s
raised s (p ∷ t ∷ ts) = if nat_lt s.lock_view t.view then locked_on s t else s

-- a vote counts at once and after a restart
abbrev pub voted_in : ReplicaState → ℕ → ReplicaState
voted_in s view = record {
  vote_view = view;
  stored_vote_view = view;
  lock_id = s.lock_id;
  lock_view = s.lock_view;
}

-- a timeout raises the vote view, until a restart
abbrev pub timed_out : ReplicaState → ℕ → ReplicaState
timed_out s view = record {
  vote_view = if nat_lt s.vote_view view then view else s.vote_view;
  stored_vote_view = s.stored_vote_view;
  lock_id = s.lock_id;
  lock_view = s.lock_view;
}

-- a restart goes back to the stored vote view, and keeps the lock
abbrev pub restarted : ReplicaState → ReplicaState
restarted s = record {
  vote_view = s.stored_vote_view;
  stored_vote_view = s.stored_vote_view;
  lock_id = s.lock_id;
  lock_view = s.lock_view;
}

-- the state after an event
abbrev pub after : ReplicaState → Event → ReplicaState
after s (Vote b ps) = raised (voted_in s b.view) ps
after s (Raise b ps) = raised s ps
after s (Pass b ps) = s
after s (Timeout v) = timed_out s v
after s Restart = restarted s

-- an event takes a correct replica from one state to another
pub record Takes (genesis : Header) (before : ReplicaState) (event : Event) (later : ReplicaState) : Type 0 where
  pub allowed : IsAllowed genesis before event
  pub leaves : later ≡ after before event

-- ---- runs

-- each event is allowed in the state that the ones before it leave
abbrev pub IsRunFrom : Header → ReplicaState → List Event → Type 0
IsRunFrom genesis s [] = Unit {0}
IsRunFrom genesis s (e ∷ es) = IsAllowed genesis s e × IsRunFrom genesis (after s e) es

-- a run of a correct replica from its start
abbrev pub IsRun : Header → List Event → Type 0
IsRun genesis run = IsRunFrom genesis (first_state genesis) run

-- the state after some events
abbrev pub after_all : ReplicaState → List Event → ReplicaState
after_all s [] = s
after_all s (e ∷ es) = after_all (after s e) es

-- the state that a run ends in
abbrev pub end_of : Header → List Event → ReplicaState
end_of genesis run = after_all (first_state genesis) run

-- a vote is on a block's view and id
abbrev pub ballot_on : Header → Ballot
ballot_on b = record { view = b.view; id = header_id b }

-- the votes of a run
abbrev pub votes_of : List Event → List Ballot
votes_of [] = []
votes_of (Vote b ps ∷ es) = ballot_on b ∷ votes_of es
votes_of (Raise b ps ∷ es) = votes_of es
votes_of (Pass b ps ∷ es) = votes_of es
votes_of (Timeout v ∷ es) = votes_of es
votes_of (Restart ∷ es) = votes_of es

-- the headers of all chains of a run
abbrev pub headers_of : List Event → List Header
headers_of [] = []
headers_of (Vote b ps ∷ es) = (b ∷ ps) ++ headers_of es
headers_of (Raise b ps ∷ es) = (b ∷ ps) ++ headers_of es
headers_of (Pass b ps ∷ es) = (b ∷ ps) ++ headers_of es
headers_of (Timeout v ∷ es) = headers_of es
headers_of (Restart ∷ es) = headers_of es

-- what a replica stores of a vote or a raised lock: the block, its parent, and which of the two it was
pub record Stored : Type 0 where
  pub voted : Bool
  pub block : Header
  pub parent : Header

-- the entry of a block with these headers after it
abbrev pub stored_on : Bool → Header → List Header → List Stored
stored_on voted b [] = []
stored_on voted b (p ∷ ps) = record { voted = voted; block = b; parent = p } ∷ []

-- the stored list of a run: an entry for each vote and each raised lock, in order
abbrev pub stored_of : List Event → List Stored
stored_of [] = []
stored_of (Vote b ps ∷ es) = stored_on true b ps ++ stored_of es
stored_of (Raise b ps ∷ es) = stored_on false b ps ++ stored_of es
stored_of (Pass b ps ∷ es) = stored_of es
stored_of (Timeout v ∷ es) = stored_of es
stored_of (Restart ∷ es) = stored_of es
