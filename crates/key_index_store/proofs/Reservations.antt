-- The entries of reservations, one by one.
use Rattle.std.proofs.Common.{◌≡◌, ◌≢◌, ℕ, zero, suc, ◌+◌, ◌≤◌, ◌<◌, List, [], ◌∷◌, ◌++◌, length, take, Some, inl, inr, refl, sym, ◌∙◌, ap, arith, add-one, length-append}
use Rattle.std.specs.Prelude.{slice_get}
use Rattle.std.proofs.lemmas.Bool.{cases_lt}
use Rattle.key_index_store.specs.Boundary.{reservation, reservations, taken_by}

pub length-reservations : (n : ℕ) → length (reservations n) ≡ n
length-reservations zero = refl
length-reservations (suc n) = omega (arith, length-append (reservations n) (reservation n ∷ []), length-reservations n)

pub reservations-more : (n : ℕ) → reservations (n + 1) ≡ reservations n ++ reservation n ∷ []
reservations-more n = ap reservations (add-one n)

get-push : (xs : List (List ℕ)) (x : List ℕ) → slice_get (xs ++ x ∷ []) (length xs) ≡ Some x
get-push [] x = refl
get-push (y ∷ xs) x = get-push xs x

get-front : (xs : List (List ℕ)) (x : List ℕ) (k : ℕ) → k < length xs → slice_get (xs ++ x ∷ []) k ≡ slice_get xs k
get-front [] x k lt = absurd (omega (arith, lt))
get-front (y ∷ xs) x zero lt = refl
get-front (y ∷ xs) x (suc k) lt = get-front xs x k (omega (arith, lt))

-- the entry of each reservation
pub get-reservations : (n k : ℕ) → k < n → slice_get (reservations n) k ≡ Some (reservation k)
get-reservations zero k lt = absurd (omega (arith, lt))
get-reservations (suc n) k lt = elim (cases_lt k n) [
  | inl below ↦ get-front (reservations n) (reservation n) k (omega (arith, below, length-reservations n)) ∙ get-reservations n k below
  | inr past ↦
      let last : k ≡ length (reservations n) = omega (arith, lt, past, length-reservations n) in
      ap (λ (i : ℕ). slice_get (reservations n ++ reservation n ∷ []) i) last ∙ get-push (reservations n) (reservation n)
      ∙ ap (λ (i : ℕ). Some (reservation i)) (sym (length-reservations n) ∙ sym last)
]

take-more : (xs : List (List ℕ)) (x : List ℕ) (k : ℕ) → slice_get xs k ≡ Some x → take (suc k) xs ≡ take k xs ++ x ∷ []
take-more [] x k is = absurd (cc is)
take-more (y ∷ xs) x zero is = let same : y ≡ x = cc is in ap (λ (l : List ℕ). l ∷ []) same
take-more (y ∷ xs) x (suc k) is = ap (λ (l : List (List ℕ)). y ∷ l) (take-more xs x k is)

-- one entry more is a reservation
pub take-reservations : (xs : List (List ℕ)) (k : ℕ) → take k xs ≡ reservations k → slice_get xs k ≡ Some (reservation k) → take (k + 1) xs ≡ reservations (k + 1)
take-reservations xs k so_far is = ap (λ (n : ℕ). take n xs) (add-one k) ∙ take-more xs (reservation k) k is ∙ ap (λ (l : List (List ℕ)). l ++ reservation k ∷ []) so_far ∙ sym (reservations-more k)

-- an entry that is another is in no list of as many reservations
pub other_entry : (xs : List (List ℕ)) (x : List ℕ) (k n : ℕ) → slice_get xs k ≡ Some x → x ≢ reservation k → k < length xs → xs ≢ reservations n
other_entry xs x k n is other lt same =
    let inside : k < n = omega (arith, lt, ap length same, length-reservations n) in
    let both : Some x ≡ Some (reservation k) = sym is ∙ ap (λ (l : List (List ℕ)). slice_get l k) same ∙ get-reservations n k inside in
    other (cc both)

-- nor are there too many
pub too_many : (limit : ℕ) (xs : List (List ℕ)) (n : ℕ) → limit < taken_by (length xs) → taken_by n ≤ limit → xs ≢ reservations n
too_many limit xs n many few same = omega (arith, many, few, ap length same, length-reservations n)
