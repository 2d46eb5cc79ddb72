-- What a journal of reservations stands for. docs/FORMATS.md, 'Index journal'.
use Rattle.std.specs.Prelude.{ℕ, zero, suc, ◌≡◌, ◌≤◌, ◌<◌, ◌+◌, ◌*◌, ◌++◌, List, [], ◌∷◌, length, Option, IfSome}
use Rattle.byteorder.specs.Endian.{big_bytes}
use Rattle.stable_log.specs.Image.{StandsFor}
use Rattle.key_index_store.specs.Indices.{limit_of}
use Rattle.key_index_store.specs.declared.store.TheConstants.{INDICES_PER_RESERVATION}
use Rattle.base_wire.specs.declared.limits.TheConstants.{MOST_KEYS}

-- a replica has one to four keys
pub record IsKeyCount (keys : ℕ) : Type 0 where
  pub some : 1 ≤ keys
  pub most : keys ≤ MOST_KEYS

-- all indices that so many reservations take lie below this
abbrev pub taken_by : ℕ → ℕ
taken_by count = INDICES_PER_RESERVATION * count

-- entry k says that the indices of k + 1 reservations are taken
abbrev pub reservation : ℕ → List ℕ
reservation k = big_bytes 4 (taken_by (k + 1))

-- the entries of n reservations
abbrev pub reservations : ℕ → List (List ℕ)
reservations zero = []
reservations (suc n) = reservations n ++ reservation n ∷ []

-- an image of reservations of so many indices at most, below whose boundary all indices are taken
pub record IsBoundary (limit boundary : ℕ) (image : List ℕ) : Type 0 where
  pub count : ℕ
  pub few : taken_by count ≤ limit
  pub stands : StandsFor image (reservations count)
  pub taken : boundary ≡ taken_by count

-- an image whose boundary is at least the mark
abbrev pub IsBoundedBy : (limit mark : ℕ) → List ℕ → Type 0
IsBoundedBy limit mark image = (boundary : ℕ) × IsBoundary limit boundary image × (mark ≤ boundary)

-- whatever a crash leaves has a boundary that is at least the mark
abbrev pub LeavesBoundary : (List ℕ → Type 0) → (limit mark : ℕ) → Type 0
LeavesBoundary images limit mark = (image : List ℕ) → images image → IsBoundedBy limit mark image

-- what a store keeps: its mark stands within the last reservation, its journal has just the reservations, and
-- whatever a crash leaves has them all
pub record IsStore (told : Option (List ℕ)) (images : List ℕ → Type 0) (list : List (List ℕ)) (keys mark count : ℕ) : Type 0 where
  pub within : mark ≤ taken_by count
  pub last : taken_by count < mark + INDICES_PER_RESERVATION
  pub few : taken_by count ≤ limit_of keys
  pub keys_are : IsKeyCount keys
  pub counted : length list ≡ count
  pub listed : IfSome told (λ _. list ≡ reservations count)
  pub bounded : IfSome told (λ _. LeavesBoundary images (limit_of keys) (taken_by count))
