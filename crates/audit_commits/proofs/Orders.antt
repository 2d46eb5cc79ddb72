-- The order of blocks.
use Rattle.std.proofs.Common.{◌≡◌, false, ℕ, List, get_or, refl, ap, arith}
use Rattle.std.specs.Cmp.{IsTotalOrder}
use Rattle.std.specs.Cmp.Lexicographic.{slice_cmp}
use Rattle.std.specs.List.{AllPairs}
use Rattle.std.specs.List.Sorted.{IsPermutation, IsSorted}
use Rattle.std.specs.Ordering.{nat_cmp, ordering_then, ordering_reverse, is_lt, eq_by_cmp}
use Rattle.std.specs.declared.cmp.Ordering.{Ordering}
use Rattle.std.specs.declared.cmp.Ordering.TheVariants.{Less, Equal, Greater}
use Rattle.std.proofs.lemmas.Cmp.{nat_cmp_total, nat_list_cmp_total, on_total, then_total, tied_itself}
use Rattle.std.proofs.lemmas.List.Sorted.{ranks_by, sorted_far}
use Rattle.std.proofs.lemmas.Map.Keys.{IsDistinct-IsPermutation, IsDistinct-from_apart, apart_from_distinct}
use Rattle.blocks.specs.Headers.{Header, HasLowerId, header_id}
use Rattle.audit_commits.specs.Commits.{block_cmp, IsLowerBlock}

pub blocks_total : IsTotalOrder block_cmp
blocks_total = then_total (on_total (λ (h : Header). h.view) nat_cmp_total) (on_total (λ (h : Header). header_id h) nat_list_cmp_total)

-- no block is below itself
pub not_lower : (b : Header) → IsLowerBlock b b → ⊥
not_lower b less =
    let tie : block_cmp b b ≡ Equal = tied_itself blocks_total b in
    cc

pub lower_lower : (a b c : Header) → IsLowerBlock a b → IsLowerBlock b c → IsLowerBlock a c
lower_lower a b c = blocks_total.trans a b c

-- ---- sorting different blocks

-- blocks of different ids are told apart
apart_from_less : (v w : Ordering) → w ≡ Less → eq_by_cmp (λ (_ : ℕ) (_ : ℕ). ordering_then v w) 0 0 ≡ false
apart_from_less Less w e = refl
apart_from_less Equal w e = ap (λ (o : Ordering). eq_by_cmp (λ (_ : ℕ) (_ : ℕ). o) 0 0) e
apart_from_less Greater w e = refl

ids_apart : (a b : Header) → HasLowerId a b → eq_by_cmp block_cmp a b ≡ false
ids_apart a b less = apart_from_less (nat_cmp a.view b.view) (slice_cmp nat_cmp (header_id a) (header_id b)) less

flip_test : (v w : Ordering) → v ≡ ordering_reverse w → eq_by_cmp (λ (_ : ℕ) (_ : ℕ). v) 0 0 ≡ eq_by_cmp (λ (_ : ℕ) (_ : ℕ). w) 0 0
flip_test v Less e = ap (λ (o : Ordering). eq_by_cmp (λ (_ : ℕ) (_ : ℕ). o) 0 0) e
flip_test v Equal e = ap (λ (o : Ordering). eq_by_cmp (λ (_ : ℕ) (_ : ℕ). o) 0 0) e
flip_test v Greater e = ap (λ (o : Ordering). eq_by_cmp (λ (_ : ℕ) (_ : ℕ). o) 0 0) e

flips : (a b : Header) → eq_by_cmp block_cmp a b ≡ eq_by_cmp block_cmp b a
flips a b = flip_test (block_cmp a b) (block_cmp b a) (blocks_total.antisymm a b)

-- neither above nor equal is below
below : (v w : Ordering) → v ≡ ordering_reverse w → is_lt w ≡ false → eq_by_cmp (λ (_ : ℕ) (_ : ℕ). v) 0 0 ≡ false → v ≡ Less
below v Less e f g = absurd cc
below v Equal e f g = absurd (let h = ap (λ (o : Ordering). eq_by_cmp (λ (_ : ℕ) (_ : ℕ). o) 0 0) e in cc)
below v Greater e f g = e

pub rising_from_sorted : (xs ys : List Header) → AllPairs HasLowerId xs → IsPermutation xs ys → IsSorted block_cmp ys → AllPairs IsLowerBlock ys
rising_from_sorted xs ys ids moved sorted i j d less there =
    let apart_before = IsDistinct-from_apart (eq_by_cmp block_cmp) xs (λ m n e l t. ids_apart (get_or xs m e) (get_or xs n e) (ids m n e l t)) in
    let apart_after = IsDistinct-IsPermutation (eq_by_cmp block_cmp) flips xs ys moved apart_before in
    let a = get_or ys i d in
    let b = get_or ys j d in
    below (block_cmp a b) (block_cmp b a) (blocks_total.antisymm a b)
    (sorted_far (λ x y. is_lt (block_cmp x y)) (ranks_by blocks_total (λ (h : Header). h)) ys sorted i j d (omega arith) there)
    (apart_from_distinct (eq_by_cmp block_cmp) ys i j d apart_after less there)
