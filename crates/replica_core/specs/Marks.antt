-- Blocks whose payload begins with a mark, and the first of them in a chain.
use Rattle.std.specs.Prelude.{◌≡◌, ◌<◌, ◌≤◌, ℕ, List, ◌∷◌, take}
use Rattle.std.specs.List.{Contains}
use Rattle.blocks.specs.Headers.{Header}
use Rattle.blocks.specs.Chains.{IsChainIn}
use Rattle.replica_core.specs.Cores.{Core}
use Rattle.replica_core.specs.Tables.{HasId}

-- the block is above genesis' view, and its payload begins with these four bytes
pub record IsMarked (mark : List ℕ) (b : Header) : Type 0 where
  pub above : 0 < b.view
  pub begins : take 4 b.payload ≡ mark

-- k is h, or stands in a chain of h that is held
abbrev pub IsInChain : Core → (h k : Header) → Type 0
IsInChain c h k = (ps : List Header) × IsChainIn c.headers c.genesis h ps × Contains (h ∷ ps) k

-- none is marked there
abbrev pub HasNoMarked : Core → List ℕ → Header → Type 0
HasNoMarked c mark h = (k : Header) → IsInChain c h k → IsMarked mark k → ⊥

-- b is marked there, and none below it
pub record IsFirstMarked (c : Core) (mark : List ℕ) (h b : Header) : Type 0 where
  pub place : IsInChain c h b
  pub marked : IsMarked mark b
  pub first : (k : Header) → IsInChain c h k → IsMarked mark k → b.view ≤ k.view

-- the same of the chain of the held header of this id
abbrev pub HasNoMarkedIn : Core → List ℕ → List ℕ → Type 0
HasNoMarkedIn c mark id = (h : Header) → HasId c.headers id h → HasNoMarked c mark h

abbrev pub IsFirstMarkedIn : Core → List ℕ → List ℕ → Header → Type 0
IsFirstMarkedIn c mark id b = (h : Header) × HasId c.headers id h × IsFirstMarked c mark h b
