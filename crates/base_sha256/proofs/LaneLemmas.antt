-- The lanes of a list of vectors.
use Rattle.std.proofs.Common.{◌≡◌, ℕ, zero, suc, List, [], ◌∷◌, length, slice_index, slice_index_or, slice_set, refl}
use Rattle.base_sha256.specs.Lanes.{lane}

-- word k of lane l
pub slice_index-lane : (x : List (List ℕ)) (l k : ℕ) → slice_index (lane l x) k ≡ slice_index (slice_index_or x k []) l
slice_index-lane [] l k = refl
slice_index-lane (x ∷ xs) l zero = refl
slice_index-lane (x ∷ xs) l (suc k) = slice_index-lane xs l k

pub length-lane : (x : List (List ℕ)) (l : ℕ) → length (lane l x) ≡ length x
length-lane [] l = refl
length-lane (x ∷ xs) l = rw (length-lane xs l) refl

pub lane-set : (x : List (List ℕ)) (l k : ℕ) (v : List ℕ) → lane l (slice_set x k v) ≡ slice_set (lane l x) k (slice_index v l)
lane-set [] l k v = refl
lane-set (x ∷ xs) l zero v = refl
lane-set (x ∷ xs) l (suc k) v = rw (lane-set xs l k v) refl
