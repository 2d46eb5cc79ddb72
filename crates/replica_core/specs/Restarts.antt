-- What a core holds after a restart: of the headers that the stored entries name, those with a whole chain.
-- A block and its parent are stored, and no header behind them: the other headers are delivered again.
use Rattle.std.specs.Prelude.{◌≡◌, ◌≢◌, ◌⊎◌, ◌↔◌, ◌≤◌, List, [], ◌∷◌, length}
use Rattle.std.specs.List.{Contains}
use Rattle.blocks.specs.Headers.{Header, header_id}
use Rattle.blocks.specs.Chains.{IsLinked, NoCollision}
use Rattle.blocks.specs.Replica.{Stored}
use Rattle.replica_core.specs.Tables.{AllDiffer}

-- of each entry the block, and then its parent
abbrev pub headers_of_list : List Stored → List Header
headers_of_list [] = []
headers_of_list (x ∷ xs) = x.block ∷ x.parent ∷ headers_of_list xs

-- the headers that are known: genesis first
abbrev pub known_headers : Header → List Stored → List Header
known_headers genesis list = genesis ∷ headers_of_list list

-- h stands in the list, and the first header of its id is h
abbrev pub IsFirstOfId : List Header → Header → Type 0
IsFirstOfId [] h = ⊥
IsFirstOfId (x ∷ xs) h = (x ≡ h) ⊎ ((header_id x ≢ header_id h) × IsFirstOfId xs h)

-- held are the headers that have a chain among all, no two of one id, and each once
pub record AreAllLinked (all held : List Header) (genesis : Header) : Type 0 where
  pub linked : (h : Header) → Contains held h ↔ IsLinked all genesis h
  pub apart : NoCollision held
  pub once : AllDiffer held
  pub most : length held ≤ length all

-- of the known headers those are kept that are the first of their ids; of the kept those are held that
-- have a chain to genesis among the kept
pub record HoldsLinked (genesis : Header) (list : List Stored) (held : List Header) : Type 0 where
  pub kept : List Header
  pub firsts : (h : Header) → Contains kept h ↔ IsFirstOfId (known_headers genesis list) h
  pub linked : (h : Header) → Contains held h ↔ IsLinked kept genesis h
