-- When nothing that a signer left by a light proof alone is still to be compared.
use Rattle.std.specs.Prelude.{◌≡◌, ◌⊎◌, ◌<◌, ◌≤◌, ℕ, List, [], Option, Some, false, length, slice_index_or}
use Rattle.handover_folder.specs.declared.comparing.LeftChain.{LeftChain}

abbrev pub no_chain : LeftChain
no_chain = record { id = []; is_noted = false }

-- chain k of those that were left
abbrev pub nth_chain : List LeftChain → ℕ → LeftChain
nth_chain left k = slice_index_or left k no_chain

-- this is the place of the compared chain: among those that were left, or behind them, where the signer stands; or it is 0
abbrev pub IsComparedAt : List LeftChain → (at : List ℕ) → Option (List ℕ) → ℕ → Type 0
IsComparedAt left at compared place =
    (place ≡ 0)
    ⊎ ((place < length left) × (compared ≡ Some (nth_chain left place).id))
    ⊎ ((place ≡ length left) × (compared ≡ Some at))

-- of none from this place on it is noted that it was left by a light proof
abbrev pub AreUnnotedFrom : List LeftChain → ℕ → Type 0
AreUnnotedFrom left place = (k : ℕ) → place ≤ k → k < length left → (nth_chain left k).is_noted ≡ false

-- each of which that is noted comes before the compared one
pub record AreCompared (left : List LeftChain) (at : List ℕ) (compared : Option (List ℕ)) : Type 0 where
  pub place : ℕ
  pub found : IsComparedAt left at compared place
  pub none : AreUnnotedFrom left place
