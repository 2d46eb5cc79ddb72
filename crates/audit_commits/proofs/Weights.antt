-- Weights of sets of replicas.
use Rattle.std.proofs.Common.{◌≡◌, ℕ, zero, suc, ◌<◌, ◌≤◌, ◌+◌, List, [], ◌∷◌, Bool, true, false, ◌&&◌, ◌||◌, cond, nat_eq, length, refl, sym, ap, inl, inr, arith}
use Rattle.std.specs.List.{list_any, sum_by}
use Rattle.std.proofs.lemmas.Bool.{or_cases, eq-eqb, ne_eqb, cases_eq, false≢true}
use Rattle.std.proofs.lemmas.List.Sums.{sum_by-cons}
use Rattle.blocks.proofs.Members.{Has}
use Rattle.blocks.specs.Weights.{weight_of, is_any, is_among}

both_at : (a b : Bool) (w : ℕ) → cond a w 0 + cond b w 0 ≤ w + cond (a && b) w 0
both_at true true w = omega arith
both_at true false w = omega arith
both_at false true w = omega arith
both_at false false w = omega arith

-- two sets together weigh no more than all and what they share
pub weight_both : (w : ℕ → ℕ) (p q : ℕ → Bool) (n : ℕ) → weight_of w p n + weight_of w q n ≤ weight_of w is_any n + weight_of w (λ r. p r && q r) n
weight_both w p q zero = omega arith
weight_both w p q (suc n) = let k = weight_both w p q n in let b = both_at (p n) (q n) (w n) in omega arith

either_at : (a b : Bool) (w : ℕ) → cond (a || b) w 0 ≤ cond a w 0 + cond b w 0
either_at true b w = omega arith
either_at false b w = omega arith

pub weight_either : (w : ℕ → ℕ) (p q : ℕ → Bool) (n : ℕ) → weight_of w (λ r. p r || q r) n ≤ weight_of w p n + weight_of w q n
weight_either w p q zero = omega arith
weight_either w p q (suc n) = let k = weight_either w p q n in let b = either_at (p n) (q n) (w n) in omega arith

more_at : (a b : Bool) (w : ℕ) → (a ≡ true → b ≡ true) → cond a w 0 ≤ cond b w 0
more_at true true w h = omega arith
more_at true false w h = absurd (false≢true (h refl))
more_at false b w h = omega arith

-- a larger set weighs no less
pub weight_more : (w : ℕ → ℕ) (p q : ℕ → Bool) (n : ℕ) → ((r : ℕ) → r < n → p r ≡ true → q r ≡ true) → weight_of w p n ≤ weight_of w q n
weight_more w p q zero h = omega arith
weight_more w p q (suc n) h =
    let k = weight_more w p q n (λ r l. h r (omega arith)) in
    let b = more_at (p n) (q n) (w n) (h n (omega arith)) in
    omega arith

weight_none : (w : ℕ → ℕ) (n : ℕ) → weight_of w (λ _. false) n ≡ 0
weight_none w zero = refl
weight_none w (suc n) = let k = weight_none w n in omega arith

-- one replica weighs at most its weight
weight_past : (w : ℕ → ℕ) (x n : ℕ) → n ≤ x → weight_of w (λ r. nat_eq r x) n ≡ 0
weight_past w x zero l = refl
weight_past w x (suc n) l =
    let k = weight_past w x n (omega arith) in
    let e : nat_eq n x ≡ false = ne_eqb n x (λ e. omega arith) in
    rw e (omega arith)

weight_one : (w : ℕ → ℕ) (x n : ℕ) → weight_of w (λ r. nat_eq r x) n ≤ w x
weight_one w x zero = omega arith
weight_one w x (suc n) =
    elim (cases_eq n x) [
      | inl e ↦
          let k = weight_past w x n (omega arith) in
          let t : nat_eq n x ≡ true = eq-eqb n x e in
          let s : w n ≡ w x = ap w e in
          rw t (omega arith)
      | inr d ↦
          let k = weight_one w x n in
          let f : nat_eq n x ≡ false = ne_eqb n x d in
          rw f (omega arith)
    ]

-- a set of listed replicas weighs no more than the list
pub weight_listed : (w : ℕ → ℕ) (xs : List ℕ) (n : ℕ) → weight_of w (is_among xs) n ≤ sum_by w xs
weight_listed w [] n = let k = weight_none w n in omega arith
weight_listed w (x ∷ xs) n =
    let k = weight_listed w xs n in
    let o = weight_one w x n in
    let b = weight_either w (λ r. nat_eq r x) (λ r. list_any (nat_eq r) xs) n in
    let s = sum_by-cons w x xs in
    omega arith

listed : (xs : List ℕ) (r : ℕ) → Has xs r → list_any (nat_eq r) xs ≡ true
listed [] r h = absurd h
listed (x ∷ xs) r h =
    elim h [
      | inl e ↦ rw (eq-eqb r x (sym e)) refl
      | inr m ↦ elim (nat_eq r x) as (λ b. (b || list_any (nat_eq r) xs) ≡ true) [ true ↦ refl | false ↦ listed xs r m ]
    ]

pub weight_within : (w : ℕ → ℕ) (p : ℕ → Bool) (xs : List ℕ) (n : ℕ) → ((r : ℕ) → r < n → p r ≡ true → Has xs r) → weight_of w p n ≤ weight_of w (is_among xs) n
weight_within w p xs n h = weight_more w p (λ r. list_any (nat_eq r) xs) n (λ r l e. listed xs r (h r l e))

-- an element that passes
pub list_any-Has : {X : Type 0} (p : X → Bool) (xs : List X) → list_any p xs ≡ true → (x : X) × Has xs x × (p x ≡ true)
list_any-Has p [] e = absurd (false≢true e)
list_any-Has p (x ∷ xs) e =
    elim (or_cases (p x) (list_any p xs) e) [
      | inl t ↦ (x, inl refl, t)
      | inr t ↦ let r = list_any-Has p xs t in (r.0, inr r.1, r.2)
    ]

-- ---- weights of 1

pub weight_once : (w : ℕ → ℕ) → ((r : ℕ) → w r ≡ 1) → (n : ℕ) → weight_of w is_any n ≡ n
weight_once w one zero = refl
weight_once w one (suc n) = let k = weight_once w one n in let o = one n in omega arith

pub sum_once : (w : ℕ → ℕ) → ((r : ℕ) → w r ≡ 1) → (xs : List ℕ) → sum_by w xs ≡ length xs
sum_once w one [] = refl
sum_once w one (x ∷ xs) = let k = sum_once w one xs in let o = one x in let s = sum_by-cons w x xs in omega arith
