-- What ties with a key, in a list that is in the key's order.
use Rattle.std.proofs.Common.{◌≡◌, ◌↔◌, Bool, true, false, inl, inr, ℕ, ◌+◌, ◌-◌, ◌<◌, ◌≤◌, List, length, get_or, take, drop, refl, sym, ◌∙◌, ap, subst, arith}
use Rattle.std.specs.List.{Contains}
use Rattle.std.specs.List.Sorted.{IsNonDecreasingBy, IsPartitionPoint, IsPartitionedBy}
use Rattle.std.specs.Ordering.{is_le, is_lt, ordering_index}
use Rattle.std.specs.declared.cmp.Ordering.{Ordering}
use Rattle.std.specs.declared.cmp.Ordering.TheVariants.{Less, Equal, Greater}
use Rattle.std.proofs.lemmas.Bool.{cases_lt}
use Rattle.std.proofs.lemmas.List.{get_or-drop, get_or-take, length-drop, length-take-le}
use Rattle.std.proofs.lemmas.List.Sorted.{IsNonDecreasingBy-drop}

-- how they stand to the key does not fall
abbrev pub RanksRise : {X : Type 0} → (X → Ordering) → List X → Type 0
RanksRise {X} rank xs = IsNonDecreasingBy (λ (x : X). ordering_index (rank x)) xs

lower_rank : (o p : Ordering) → ordering_index o ≤ ordering_index p → is_lt p ≡ true → is_lt o ≡ true
lower_rank Less p le t = refl
lower_rank Equal Less le t = absurd (omega arith)
lower_rank Equal Equal le t = t
lower_rank Equal Greater le t = t
lower_rank Greater Less le t = absurd (omega arith)
lower_rank Greater Equal le t = t
lower_rank Greater Greater le t = t

low_rank : (o p : Ordering) → ordering_index o ≤ ordering_index p → is_le p ≡ true → is_le o ≡ true
low_rank Less p le t = refl
low_rank Equal p le t = refl
low_rank Greater Less le t = absurd (omega arith)
low_rank Greater Equal le t = absurd (omega arith)
low_rank Greater Greater le t = t

-- what the two searches ask
pub parted_below : {X : Type 0} (rank : X → Ordering) (xs : List X) → RanksRise rank xs → IsPartitionedBy (λ x. is_lt (rank x)) xs
parted_below rank xs rise i j d le there t = lower_rank _ _ (rise i j d le there) t

pub parted_up_to : {X : Type 0} (rank : X → Ordering) (xs : List X) (start : ℕ) → RanksRise rank xs → IsPartitionedBy (λ x. is_le (rank x)) (drop start xs)
parted_up_to {X} rank xs start rise i j d le there t =
    low_rank _ _ (IsNonDecreasingBy-drop (λ (x : X). ordering_index (rank x)) start xs rise i j d le there) t

-- ---- what stands between them

neither : (o : Ordering) → is_lt o ≡ false → is_le o ≡ true → o ≡ Equal
neither Less e f = absurd cc
neither Equal e f = refl
neither Greater e f = absurd cc

no_lower : (o : Ordering) → o ≡ Equal → is_lt o ≡ true → ⊥
no_lower o e t = let f = ap is_lt e in absurd cc

no_higher : (o : Ordering) → o ≡ Equal → is_le o ≡ false → ⊥
no_higher o e t = let f = ap is_le e in absurd cc

-- where the first of two parts of a list ends, by a test
abbrev pub Ends : {X : Type 0} → (X → Bool) → List X → ℕ → Type 0
Ends p xs n = (n ≤ length xs) × IsPartitionPoint (λ x. p x ≡ true) (λ x. p x ≡ false) xs n

at : {X : Type 0} (xs : List X) (s n i : ℕ) (d : X) → i < n → get_or (take n (drop s xs)) i d ≡ get_or xs (s + i) d
at xs s n i d l = get_or-take n (drop s xs) i d l ∙ get_or-drop s xs i d

tied_between : {X : Type 0} (rank : X → Ordering) (xs : List X) (s n : ℕ) → Ends (λ x. is_lt (rank x)) xs s → Ends (λ x. is_le (rank x)) (drop s xs) n
    → (x : X) → Contains (take n (drop s xs)) x ↔ (Contains xs x × (rank x ≡ Equal))
tied_between {X} rank xs s n first second x =
    let long = length-drop s xs in
    let within = second.0 in
    let taken = length-take-le n (drop s xs) within in (
      λ (i, there, is).
          (let inside : i < n = omega arith in
          let here : get_or xs (s + i) x ≡ x = sym (at xs s n i x inside) ∙ is in
          let rest : get_or (drop s xs) i x ≡ x = sym (get_or-take n (drop s xs) i x inside) ∙ is in
          let high : is_lt (rank x) ≡ false = subst (λ (y : X). is_lt (rank y) ≡ false) here (first.1.1 (s + i) x (omega arith) (omega arith)) in
          let low : is_le (rank x) ≡ true = subst (λ (y : X). is_le (rank y) ≡ true) rest (second.1.0 i x (omega arith) inside) in
          ((s + i, omega arith, here), neither (rank x) high low)),
      λ ((i, there, is), tie).
          (let from : s ≤ i = elim (cases_lt i s) [
            | inl l ↦ absurd (no_lower (rank x) tie (subst (λ (y : X). is_lt (rank y) ≡ true) is (first.1.0 i x (omega arith) l)))
            | inr le ↦ le
          ] in
          let place : s + (i - s) ≡ i = omega arith in
          let rest : get_or (drop s xs) (i - s) x ≡ x = get_or-drop s xs (i - s) x ∙ ap (λ (m : ℕ). get_or xs m x) place ∙ is in
          let inside : i - s < n = elim (cases_lt (i - s) n) [
            | inl l ↦ l
            | inr past ↦ absurd (no_higher (rank x) tie (subst (λ (y : X). is_le (rank y) ≡ false) rest (second.1.1 (i - s) x past (omega arith))))
          ] in
          (i - s, omega arith, at xs s n (i - s) x inside ∙ ap (λ (m : ℕ). get_or xs m x) place ∙ is)),
    )

-- the same of lists that are these
pub tied_between_in : {X : Type 0} (rank : X → Ordering) (xs ds es rest : List X) (s n : ℕ) → ds ≡ xs → es ≡ xs → rest ≡ drop s es
    → Ends (λ x. is_lt (rank x)) ds s → Ends (λ x. is_le (rank x)) rest n
    → (x : X) → Contains (take n rest) x ↔ (Contains xs x × (rank x ≡ Equal))
tied_between_in {X} rank xs ds es rest s n same again behind first second =
    let whole : rest ≡ drop s xs = behind ∙ ap (drop s) again in
    subst (λ (l : List X). Ends (λ x. is_le (rank x)) l n → (x : X) → Contains (take n l) x ↔ (Contains xs x × (rank x ≡ Equal))) (sym whole)
    (tied_between rank xs s n (subst (λ (l : List X). Ends (λ x. is_lt (rank x)) l s) same first)) second
