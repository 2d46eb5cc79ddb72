-- A list of headers, each found by its id.
use Rattle.std.specs.Prelude.{◌≡◌, ◌≢◌, ◌⊎◌, ◌<◌, ◌++◌, ℕ, List, [], ◌∷◌, length, slice_index_or, Option, Some}
use Rattle.std.specs.List.{AllPairs, Contains}
use Rattle.blocks.specs.Chains.{HasNone}
use Rattle.blocks.specs.Headers.{Header, NamesParent, header_id}
use Rattle.blocks.specs.Replica.{Stored}

-- headers in the order in which they came, and how many more there is room for
pub record HeaderTable : Type 0 where
  pub headers : List Header
  pub room : ℕ

-- h stands in the list and has this id
abbrev pub HasId : List Header → List ℕ → Header → Type 0
HasId hs id h = Contains hs h × (header_id h ≡ id)

-- no header of the list but b has the id of b
abbrev pub HasIdAlone : List Header → Header → Type 0
HasIdAlone hs b = (h : Header) → HasId hs (header_id b) h → h ≡ b

-- the parent that b names stands in the list, in an earlier view
abbrev pub HasParentIn : List Header → Header → Type 0
HasParentIn hs b = (p : Header) × Contains hs p × NamesParent b p × (p.view < b.view)

-- each header stands once
abbrev pub AllDiffer : List Header → Type 0
AllDiffer hs = AllPairs (λ g h. g ≢ h) hs

-- h is added at the end, unless a header of its id is there
abbrev pub AddsFirst : (old new : List Header) → Header → Type 0
AddsFirst old new h =
    (HasNone old (header_id h) × (new ≡ old ++ h ∷ []))
    ⊎ (((k : Header) × HasId old (header_id h) k) × (new ≡ old))

-- the block of an entry is added so, and then its parent
abbrev pub AddsEntry : (old new : List Header) → Stored → Type 0
AddsEntry old new x = (middle : List Header) × AddsFirst old middle x.block × AddsFirst middle new x.parent

-- the places of the headers by their ids, and nothing else
pub record ArePlacesById (hs : List Header) (place : List ℕ → Option ℕ) : Type 0 where
  pub each : (k : ℕ) (h : Header) → k < length hs → slice_index_or hs k h ≡ h → place (header_id h) ≡ Some k
  pub back : (id : List ℕ) (k : ℕ) → place id ≡ Some k → (h : Header) × (k < length hs) × (slice_index_or hs k h ≡ h) × (header_id h ≡ id)
