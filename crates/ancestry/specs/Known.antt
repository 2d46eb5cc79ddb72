-- Headers that are known, genesis among them, and what they say of the ids of blocks: who has a chain, and
-- who stands in it (HotStuff, PODC 2019; profile: views, not heights). The definitions of chains and
-- ancestors are those of `blocks`.
use Rattle.std.specs.Prelude.{◌≡◌, ℕ, List, ◌∷◌}
use Rattle.std.specs.List.{AllPairs, Contains}
use Rattle.blocks.specs.Headers.{Header, header_id, HasLowerId}
use Rattle.blocks.specs.Chains.{IsLinked, IsAncestor}

-- the genesis, and other headers
pub record Known : Type 0 where
  pub genesis : Header
  pub headers : List Header

-- all that are known; genesis always is
abbrev pub all_of : Known → List Header
all_of known = known.genesis ∷ known.headers

-- no other of these headers has the id of genesis
abbrev pub IsAloneAmong : Header → List Header → Type 0
IsAloneAmong genesis headers = (h : Header) → Contains headers h → header_id h ≡ header_id genesis → h ≡ genesis

-- ids rise, and no other header has the id of genesis
pub record IsKnown (known : Known) : Type 0 where
  pub rising : AllPairs HasLowerId known.headers
  pub alone : IsAloneAmong known.genesis known.headers

-- a known header has this id, and a chain to genesis among those that are known
abbrev pub IsLinkedId : Known → List ℕ → Type 0
IsLinkedId known id =
    (h : Header) × (header_id h ≡ id) × IsLinked (all_of known) known.genesis h

-- .. and one of the first id stands in the chain of one of the second, after the first place
abbrev pub IsAncestorId : Known → List ℕ → List ℕ → Type 0
IsAncestorId known a b =
    (h : Header) × (k : Header) × (header_id h ≡ a) × (header_id k ≡ b) × IsAncestor (all_of known) known.genesis h k
