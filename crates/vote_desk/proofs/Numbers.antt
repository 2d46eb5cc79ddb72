-- Numbers of receipts, in any order.
use Rattle.std.proofs.Common.{◌≡◌, ◌≢◌, ◌↔◌, IsTrue, ℕ, zero, suc, ◌+◌, ◌<◌, ◌≤◌, ◌==◌, Bool, true, List, [], ◌∷◌, length, get_or, swap, nat_le, if◌then◌else◌, inl, inr, refl, sym, ap, ◌∙◌, arith}
use Rattle.std.specs.List.{All}
use Rattle.std.specs.List.Sorted.{IsNonDecreasingBy, IsPermutation}
use Rattle.std.proofs.lemmas.Bool.{and_parts, and_from, cases_lt, leb-true, le-leb}
use Rattle.std.proofs.lemmas.Bool.Decides.{nat_tests}
use Rattle.std.proofs.lemmas.List.Kept.{AllPairs-cons}
use Rattle.std.proofs.lemmas.List.Edits.{swapped_from_swap}
use Rattle.std.proofs.lemmas.List.Sorted.{All-permutation, IsPermutation-keeps, IsPermutation-swap, length_permutation}
use native.Mathlib.Decide.{ℕ_discrete}
use Rattle.blocks.specs.Replica.{Stored}
use Rattle.vote_desk.specs.declared.reply.Receipt.{Receipt}
use Rattle.vote_desk.specs.Receipts.{AreRisingByNumber, AreReceipts, HaveOwnNumbers, IsReceiptOf, numbers_rise_from}

-- ---- two elements change places

abbrev exchange : ℕ → ℕ → ℕ → ℕ
exchange a b i = if i == a then b else (if i == b then a else i)

exchange-within : (a b n i : ℕ) → a < n → b < n → i < n → exchange a b i < n
exchange-within a b n i p q l = grind (arith, nat_tests)

exchange-twice : (a b i : ℕ) → exchange a b (exchange a b i) ≡ i
exchange-twice a b i = grind (arith, nat_tests)

get_or-swap : {X : Type 0} (xs : List X) (a b : ℕ) (d : X) → a < length xs → b < length xs → (i : ℕ) → get_or (swap xs a b) i d ≡ get_or xs (exchange a b i) d
get_or-swap {X} xs a b d p q i =
    let w = swapped_from_swap xs _ a b d p q refl in
    let read = λ (n : ℕ) (e : exchange a b i ≡ n). ap (λ k. get_or xs k d) e in
    elim (ℕ_discrete i a) [
      | yes e ↦ ap (λ k. get_or (swap xs a b) k d) e ∙ w.0 ∙ sym (read b (grind (arith, nat_tests)))
      | no n ↦ elim (ℕ_discrete i b) [
        | yes e ↦ ap (λ k. get_or (swap xs a b) k d) e ∙ w.1 ∙ sym (read a (grind (arith, nat_tests)))
        | no m ↦ w.2 i n m ∙ sym (read i (grind (arith, nat_tests)))
      ]
    ]

-- ---- their own numbers, at any two places

AtAnyTwo : List Receipt → Type 0
AtAnyTwo xs = (i j : ℕ) (d : Receipt) → i ≢ j → i < length xs → j < length xs → (get_or xs i d).number ≢ (get_or xs j d).number

at_any_two : (xs : List Receipt) → HaveOwnNumbers xs → AtAnyTwo xs
unfolding AtAnyTwo
at_any_two xs own i j d ne p q = elim (cases_lt i j) [
  | inl l ↦ own i j d l q
  | inr l ↦ λ same. own j i d (two i j ne l) p (sym same)
]
  where
    two : (i j : ℕ) → i ≢ j → j ≤ i → j < i
    two i j ne l = elim (cases_lt j i) [ inl k ↦ k | inr k ↦ (let e : i ≡ j = omega arith in absurd (ne e)) ]

pairs_of : (xs : List Receipt) → AtAnyTwo xs → HaveOwnNumbers xs
unfolding AtAnyTwo
pairs_of xs any i j d l q = any i j d (λ e. absurd (omega arith)) (omega arith) q

swapped : (xs : List Receipt) (a b : ℕ) → a < length xs → b < length xs → AtAnyTwo xs → AtAnyTwo (swap xs a b)
unfolding AtAnyTwo
swapped xs a b p q any i j d ne l m same =
    let long : length (swap xs a b) ≡ length xs = length_permutation xs (swap xs a b) (IsPermutation-swap xs (swap xs a b) a b p q refl) in
    let far : exchange a b i ≢ exchange a b j = λ e. ne (sym (exchange-twice a b i) ∙ ap (exchange a b) e ∙ exchange-twice a b j) in
    any (exchange a b i) (exchange a b j) d far
    (exchange-within a b (length xs) i p q (omega (arith, long))) (exchange-within a b (length xs) j p q (omega (arith, long)))
    (sym (ap (λ (r : Receipt). r.number) (get_or-swap xs a b d p q i)) ∙ same ∙ ap (λ (r : Receipt). r.number) (get_or-swap xs a b d p q j))

pub own-permutation : (xs ys : List Receipt) → IsPermutation xs ys → HaveOwnNumbers xs → HaveOwnNumbers ys
own-permutation xs ys s own =
    pairs_of ys (IsPermutation-keeps xs AtAnyTwo (at_any_two xs own) (λ l i j p q h. swapped l i j p q h) ys s)

-- in another order they are the receipts as well
pub receipts-permutation : (opened : ℕ) (steps : List Stored) (xs ys : List Receipt) → IsPermutation xs ys → AreReceipts opened steps xs → AreReceipts opened steps ys
receipts-permutation opened steps xs ys s are = record {
  own = own-permutation xs ys s are.own;
  each = All-permutation (IsReceiptOf opened steps) xs ys s are.each;
  all = length_permutation xs ys s ∙ are.all;
}

-- ---- rising numbers

rises_above : (least : ℕ) (xs : List Receipt) → numbers_rise_from least xs ≡ true → All (λ r. least ≤ r.number) xs × AreRisingByNumber xs
rises_above least [] h = (λ k d l. absurd (omega arith), λ i j d l m. absurd (omega arith))
rises_above least (r ∷ rs) h =
    let parts = and_parts (nat_le least r.number) (numbers_rise_from (r.number + 1) rs) h in
    let here : least ≤ r.number = leb-true least r.number parts.0 in
    let rest = rises_above (r.number + 1) rs parts.1 in
    (each here rest.0, AllPairs-cons (λ (x : Receipt) (y : Receipt). x.number < y.number) r rs (λ k d l. (let o = rest.0 k d l in omega arith)) rest.1)
  where
    each : least ≤ r.number → All (λ s. r.number + 1 ≤ s.number) rs → All (λ s. least ≤ s.number) (r ∷ rs)
    each here rest zero d l = here
    each here rest (suc k) d l = let o = rest k d (omega arith) in omega arith

rises : (least : ℕ) (xs : List Receipt) → All (λ r. least ≤ r.number) xs → AreRisingByNumber xs → numbers_rise_from least xs ≡ true
rises least [] each order = refl
rises least (r ∷ rs) each order =
    and_from (nat_le least r.number) (numbers_rise_from (r.number + 1) rs) (le-leb least r.number (each 0 r (omega arith)))
    (rises (r.number + 1) rs (λ k d l. (let o = order 0 (suc k) d (omega arith) (omega arith) in omega arith)) (λ i j d l m. order (suc i) (suc j) d (omega arith) (omega arith)))

own_of_order : (xs : List Receipt) → AreRisingByNumber xs → HaveOwnNumbers xs
own_of_order xs order i j d l q same = let o = order i j d l q in absurd (omega arith)

order_of_own : (xs : List Receipt) → IsNonDecreasingBy (λ r. r.number) xs → HaveOwnNumbers xs → AreRisingByNumber xs
order_of_own xs sorted own i j d l q =
    let up = sorted i j d (omega arith) q in
    elim (cases_lt (get_or xs i d).number (get_or xs j d).number) [
      | inl k ↦ k
      | inr k ↦ (let same : (get_or xs i d).number ≡ (get_or xs j d).number = omega arith in absurd (own i j d l q same))
    ]

pub in_order : (xs : List Receipt) → IsNonDecreasingBy (λ r. r.number) xs → HaveOwnNumbers xs → AreRisingByNumber xs
in_order xs sorted own = order_of_own xs sorted own

pub own_where : (xs : List Receipt) (b : Bool) → b ≡ numbers_rise_from 0 xs → IsNonDecreasingBy (λ r. r.number) xs → IsTrue b ↔ HaveOwnNumbers xs
own_where xs b is sorted = (
  λ t. own_of_order xs (rises_above 0 xs (sym is ∙ t)).1,
  λ own. is ∙ rises 0 xs (λ k d l. omega arith) (order_of_own xs sorted own),
)
