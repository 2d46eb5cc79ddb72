-- Laws on known headers.
use Rattle.std.specs.Prelude.{List, ℕ, ◌∷◌, ◌↔◌}
use Rattle.std.specs.List.{Contains}
use Rattle.blocks.specs.Headers.{Header, header_id}
use Rattle.blocks.specs.Chains.{IsChainIn, IsLinked, IsAncestor, NoCollision}
use Rattle.ancestry.specs.Known.{Known, IsKnown, all_of, IsLinkedId, IsAncestorId}

-- no two known headers have one id
abbrev pub AnIdNamesOneHeader : Type 0
AnIdNamesOneHeader = (known : Known) → IsKnown known → NoCollision (all_of known)

-- so it makes no difference whether a known header or its id is asked for
abbrev pub LinkedByIdIsLinked : Type 0
LinkedByIdIsLinked =
    (known : Known) (h : Header) → IsKnown known → Contains (all_of known) h
    → (IsLinkedId known (header_id h) ↔ IsLinked (all_of known) known.genesis h)

abbrev pub AncestorByIdIsAncestor : Type 0
AncestorByIdIsAncestor =
    (known : Known) (h k : Header) → IsKnown known → Contains (all_of known) h → Contains (all_of known) k
    → (IsAncestorId known (header_id h) (header_id k) ↔ IsAncestor (all_of known) known.genesis h k)

-- genesis has a chain
abbrev pub GenesisIsLinked : Type 0
GenesisIsLinked = (known : Known) → IsLinkedId known (header_id known.genesis)

-- no block stands in its own chain after the first place
abbrev pub NoBlockIsItsOwnAncestor : Type 0
NoBlockIsItsOwnAncestor = (known : Known) (id : List ℕ) → IsKnown known → IsAncestorId known id id → ⊥

-- where genesis stands among the headers, it makes no difference that it is known besides
abbrev pub GenesisMayStandAmongTheHeaders : Type 0
GenesisMayStandAmongTheHeaders =
    (hs : List Header) (genesis b : Header) (ps : List Header) → Contains hs genesis
    → (IsChainIn (genesis ∷ hs) genesis b ps ↔ IsChainIn hs genesis b ps)
