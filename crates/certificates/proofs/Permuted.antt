-- What holds of each two elements, in either order, holds of them in any order of the list.
use Rattle.std.proofs.Common.{◌≡◌, ◌≢◌, ◌⊎◌, ℕ, ◌<◌, ◌≤◌, List, length, get_or, refl, sym, subst, arith, inl, inr}
use Rattle.std.specs.List.{AllPairs, swap}
use Rattle.std.specs.List.Sorted.{IsPermutation}
use Rattle.std.proofs.lemmas.Bool.{cases_lt}
use Rattle.std.proofs.lemmas.List.Edits.{Swapped, swapped_from_swap, length-swap}
use Rattle.std.proofs.lemmas.List.Sorted.{IsPermutation-keeps}

-- place m of a list whose places a and b were swapped was place k before
data WasAt (a b m k : ℕ) : Type 0 where
  first : m ≡ a → k ≡ b → WasAt a b m k
  second : m ≡ b → k ≡ a → WasAt a b m k
  other : m ≢ a → m ≢ b → k ≡ m → WasAt a b m k

still_apart : (a b i j k l : ℕ) → WasAt a b i k → WasAt a b j l → i ≢ j → k ≢ l
still_apart a b i j k l (first p q) (first r s) apart e = apart (omega arith)
still_apart a b i j k l (first p q) (second r s) apart e = apart (omega arith)
still_apart a b i j k l (first p q) (other r s t) apart e = s (omega arith)
still_apart a b i j k l (second p q) (first r s) apart e = apart (omega arith)
still_apart a b i j k l (second p q) (second r s) apart e = apart (omega arith)
still_apart a b i j k l (second p q) (other r s t) apart e = r (omega arith)
still_apart a b i j k l (other p q u) (first r s) apart e = q (omega arith)
still_apart a b i j k l (other p q u) (second r s) apart e = p (omega arith)
still_apart a b i j k l (other p q u) (other r s t) apart e = apart (omega arith)

same_or_not : (m n : ℕ) → (m ≡ n) ⊎ (m ≢ n)
same_or_not m n =
    elim (cases_lt m n) [
      | inl below ↦ inr (λ e. absurd (omega arith))
      | inr past ↦ elim (cases_lt n m) [ inl above ↦ inr (λ e. absurd (omega arith)) | inr level ↦ inl (omega arith) ]
    ]

below_of : (i j : ℕ) → j ≤ i → i ≢ j → j < i
below_of i j past differ = elim (cases_lt j i) [ inl below ↦ below | inr level ↦ absurd (differ (omega arith)) ]

-- where an element stood before
record Before {X : Type 0} (f g : ℕ → X) (a b m n : ℕ) : Type 0 where
  k : ℕ
  below : k < n
  is : g m ≡ f k
  was : WasAt a b m k

before : {X : Type 0} (f g : ℕ → X) (a b m n : ℕ) → a < n → b < n → m < n → Swapped f g a b → Before f g a b m n
before f g a b m n a_below b_below m_below s =
    elim (same_or_not m a) [
      | inl at_a ↦ record { k = b; below = b_below; is = subst (λ (x : ℕ). g x ≡ f b) (sym at_a) s.0; was = first at_a refl }
      | inr not_a ↦
          elim (same_or_not m b) [
            | inl at_b ↦ record { k = a; below = a_below; is = subst (λ (x : ℕ). g x ≡ f a) (sym at_b) s.1; was = second at_b refl }
            | inr not_b ↦ record { k = m; below = m_below; is = s.2 m not_a not_b; was = other not_a not_b refl }
          ]
    ]

-- R holds of each two of the first n
abbrev Apart : {X : Type 0} → (X → X → Type 0) → (ℕ → X) → ℕ → Type 0
Apart R f n = (i j : ℕ) → i ≢ j → i < n → j < n → R (f i) (f j)

apart_swapped : {X : Type 0} (R : X → X → Type 0) (f g : ℕ → X) (a b n : ℕ) → a < n → b < n → Swapped f g a b → Apart R f n → Apart R g n
apart_swapped R f g a b n a_below b_below s apart i j differ i_below j_below =
    let p = before f g a b i n a_below b_below i_below s in
    let q = before f g a b j n a_below b_below j_below s in
    rw (p.is, q.is) (apart p.k q.k (still_apart a b i j p.k q.k p.was q.was differ) p.below q.below)

apart_from : {X : Type 0} (R : X → X → Type 0) → ((x y : X) → R x y → R y x) → (xs : List X) (d : X) → AllPairs R xs → Apart R (λ i. get_or xs i d) (length xs)
apart_from R flip xs d all i j differ i_below j_below =
    elim (cases_lt i j) [
      | inl below ↦ all i j d below j_below
      | inr past ↦ flip _ _ (all j i d (below_of i j past differ) i_below)
    ]

pub AllPairs-permutation : {X : Type 0} (R : X → X → Type 0) → ((x y : X) → R x y → R y x) → (xs ys : List X) → IsPermutation xs ys → AllPairs R xs → AllPairs R ys
AllPairs-permutation R flip xs ys moved all =
    IsPermutation-keeps xs (AllPairs R) all
    (λ l a b a_below b_below so_far i j d i_before j_below.
    let n = length-swap l a b in
    apart_swapped R (λ k. get_or l k d) (λ k. get_or (swap l a b) k d) a b (length l) a_below b_below
    (swapped_from_swap l (swap l a b) a b d a_below b_below refl) (apart_from R flip l d so_far) i j (λ e. absurd (omega arith)) (omega arith) (omega arith))
    ys moved
