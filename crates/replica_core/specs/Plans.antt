-- What a core does with a block. To vote, to lock and to commit it follows chained HotStuff (PODC 2019,
-- "Chained HotStuff"); profile: views, not heights.
use Rattle.std.specs.Prelude.{◌≡◌, ◌⊎◌, ◌<◌, ◌+◌, ◌==◌, ◌&&◌, ◌++◌, ℕ, List, [], ◌∷◌, length, Bool, nat_lt, Option, None, Some, if◌then◌else◌}
use Rattle.std.specs.List.{Contains}
use Rattle.replica_core.specs.declared.replica.TheConstants.{MOST_HEADERS}
use Rattle.blocks.specs.Headers.{Header, NamesParent, header_id}
use Rattle.blocks.specs.Chains.{IsChain, AllIn}
use Rattle.blocks.specs.Replica.{ReplicaState, Event, Vote, Raise, Pass, IsAllowed, after}
use Rattle.replica_core.specs.declared.plan.Act.{Act}
use Rattle.replica_core.specs.declared.plan.Act.TheVariants as act
use Rattle.replica_core.specs.declared.plan.Plan.{Plan}
use Rattle.replica_core.specs.Cores.{Core}
use Rattle.blocks.specs.Chains.{HasNone}

-- held headers that are a chain after b
pub record IsChainOf (c : Core) (b : Header) (ps : List Header) : Type 0 where
  pub is_chain : IsChain c.genesis b ps
  pub held : AllIn c.headers ps

-- p is held, and is the parent that b names, in an earlier view
pub record IsHeldParent (c : Core) (b p : Header) : Type 0 where
  pub held : Contains c.headers p
  pub names : NamesParent b p
  pub older : p.view < b.view

-- ---- the act

-- a vote where the replica may vote, else a raised lock where it may raise it, else nothing
abbrev pub IsActOn : Header → ReplicaState → Header → List Header → Act → Type 0
IsActOn genesis s b ps act.Vote = IsAllowed genesis s (Vote b ps)
IsActOn genesis s b ps act.Raise = (IsAllowed genesis s (Vote b ps) → ⊥) × IsAllowed genesis s (Raise b ps)
IsActOn genesis s b ps act.Pass = (IsAllowed genesis s (Vote b ps) → ⊥) × (IsAllowed genesis s (Raise b ps) → ⊥)

-- the event that an act is
abbrev pub event_of : Act → Header → List Header → Event
event_of act.Vote b ps = Vote b ps
event_of act.Raise b ps = Raise b ps
event_of act.Pass b ps = Pass b ps

-- ---- the commit

-- b, q and p are of views that follow one another, and b is not genesis
abbrev pub is_three_chain : (b q p : Header) → Bool
is_three_chain b q p = (p.view == q.view + 1) && ((q.view == b.view + 1) && nat_lt 0 b.view)

-- of the headers after a block, the third is committed where the three are such a three-chain
abbrev pub committed_of : List Header → Option (List ℕ)
committed_of [] = None
committed_of (p ∷ []) = None
committed_of (p ∷ q ∷ []) = None
committed_of (p ∷ q ∷ b ∷ bs) = if is_three_chain b q p then Some (header_id b) else None

-- what a block on p commits, by a chain of p
pub record CommitsBy (c : Core) (p : Header) (id : Option (List ℕ)) : Type 0 where
  pub below : List Header
  pub chain : IsChainOf c p below
  pub committed : id ≡ committed_of (p ∷ below)

-- ---- the plan

-- there is memory and a place for a block that is not held, and its id is new
pub record HasRoomFor (c : Core) (b : Header) : Type 0 where
  pub room : 0 < c.room
  pub place : length c.headers < MOST_HEADERS
  pub new_id : HasNone c.headers (header_id b)

-- the act and the commit for the plan's block, by its chain through the plan's parent; the block is held
-- or can be
pub record IsPlan (c : Core) (plan : Plan) : Type 0 where
  pub below : List Header
  pub chain : IsChainOf c plan.block (plan.parent ∷ below)
  pub act : IsActOn c.genesis c.state plan.block (plan.parent ∷ below) plan.act
  pub committed : plan.committed ≡ committed_of (plan.parent ∷ below)
  pub place : Contains c.headers plan.block ⊎ HasRoomFor c plan.block

-- ---- its effect

-- b is held as well, last where it is new
pub record HoldsAlso (old new : List Header) (b : Header) : Type 0 where
  pub again : Contains old b → new ≡ old
  pub first : (Contains old b → ⊥) → new ≡ old ++ b ∷ []

-- the state is that after the event that the act is, on each chain of the block through the plan's parent
abbrev pub TakesEvent : Core → Plan → ReplicaState → Type 0
TakesEvent c plan later =
    (below : List Header) → IsChain c.genesis plan.block (plan.parent ∷ below)
    → later ≡ after c.state (event_of plan.act plan.block (plan.parent ∷ below))
