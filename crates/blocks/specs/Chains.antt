-- Chains of headers down to genesis, ancestors, and blocks that conflict (HotStuff, PODC 2019, which
-- says "branch" and "conflicting"; profile: views, not heights). What takes a list of headers speaks of
-- chains inside that list alone.
use Rattle.std.specs.Prelude.{◌≡◌, ◌≢◌, ◌<◌, ℕ, List, [], ◌∷◌}
use Rattle.std.specs.List.{Contains}
use Rattle.blocks.specs.Headers.{Header, NamesParent, header_id, IsGenesis}

-- b, then these headers, is a chain down to genesis: each names the next as its parent, and views fall
abbrev pub IsChain : Header → Header → List Header → Type 0
IsChain genesis b [] = b ≡ genesis
IsChain genesis b (p ∷ ps) = NamesParent b p × (p.view < b.view) × IsChain genesis p ps

-- each of xs stands in hs
abbrev pub AllIn : List Header → List Header → Type 0
AllIn hs xs = (h : Header) → Contains xs h → Contains hs h

-- such a chain, all of whose headers stand in hs
abbrev pub IsChainIn : List Header → Header → Header → List Header → Type 0
IsChainIn hs genesis b ps = IsChain genesis b ps × AllIn hs (b ∷ ps)

-- a stands in a chain of b after the first place
abbrev pub IsAncestor : List Header → Header → Header → Header → Type 0
IsAncestor hs genesis a b = (ps : List Header) × IsChainIn hs genesis b ps × Contains ps a

-- b has a chain
abbrev pub IsLinked : List Header → Header → Header → Type 0
IsLinked hs genesis b = (ps : List Header) × IsChainIn hs genesis b ps

-- two blocks with chains conflict where they differ and neither stands in the other's chain
pub record Conflict (hs : List Header) (genesis b c : Header) : Type 0 where
  pub first_linked : IsLinked hs genesis b
  pub second_linked : IsLinked hs genesis c
  pub differ : b ≢ c
  pub not_below : IsAncestor hs genesis b c → ⊥
  pub not_above : IsAncestor hs genesis c b → ⊥

-- no header of this list has this id
abbrev pub HasNone : List Header → List ℕ → Type 0
HasNone hs id = (h : Header) → Contains hs h → header_id h ≡ id → ⊥

-- no two different headers of this list have one id
abbrev pub NoCollision : List Header → Type 0
NoCollision hs = (h k : Header) → Contains hs h → Contains hs k → header_id h ≡ header_id k → h ≡ k

-- a block has one chain among headers of different ids
abbrev pub BlockHasOneChain : Type 0
BlockHasOneChain =
    (hs : List Header) (genesis b : Header) (ps qs : List Header)
    → IsGenesis genesis → NoCollision hs → IsChainIn hs genesis b ps → IsChainIn hs genesis b qs
    → ps ≡ qs
