-- The chains of a one-time key, walked together.
use Rattle.std.specs.Prelude.{◌≡◌, ◌<◌, ◌≤◌, ◌+◌, ◌-◌, ℕ, List, [], length, slice_index, slice_index_or}
use Rattle.lmots.specs.Chains.{chain_steps, prefix}
use Rattle.lmots.specs.declared.walks.Walks.{Walks}

-- where chain i leads
unfoldable pub walked : Walks → ℕ → List ℕ
walked walks i =
    chain_steps (prefix walks.key_id walks.q i) (slice_index walks.at i) (slice_index walks.until i) (slice_index_or walks.values i [])

-- how many steps chain i has left
abbrev pub steps_left : Walks → ℕ → ℕ
steps_left walks i = slice_index walks.until i - slice_index walks.at i

-- chain i has so many steps left, and their numbers are bytes
abbrev pub CanGo : Walks → ℕ → ℕ → Type 0
CanGo walks count i = (count ≤ steps_left walks i) × (slice_index walks.at i + count < 256)

-- the chains have gone on, and lead where they led
pub record HaveGoneOn (old new : Walks) : Type 0 where
  pub key_id : new.key_id ≡ old.key_id
  pub q : new.q ≡ old.q
  pub until : new.until ≡ old.until
  pub steps : length new.at ≡ 34
  pub values : length new.values ≡ 34
  pub ends : (i : ℕ) → i < 34 → walked new i ≡ walked old i

-- the first n values are f 0, f 1, up to f (n - 1)
abbrev pub AreFirst : ℕ → (ℕ → List ℕ) → List (List ℕ) → Type 0
AreFirst n f values = (i : ℕ) → i < n → slice_index_or values i [] ≡ f i

-- each of eight numbers is that of a chain
abbrev pub AreChains : List ℕ → Type 0
AreChains chains = (l : ℕ) → l < 8 → slice_index chains l < 34
