-- A slot is kept, or it is not; and how much those weigh that are not, is one weight.
use Rattle.std.proofs.Common.{◌≡◌, ◌+◌, ◌<◌, ◌≤◌, ◌⊎◌, ◌↔◌, ℕ, zero, suc, List, Bool, true, false, cond, refl, sym, inl, inr, ◌∙◌, arith}
use Rattle.std.specs.Prelude.{IsFalse}
use Rattle.std.proofs.lemmas.Bool.{cases_lt}
use Rattle.blocks.specs.Committees.{key_id_at, keys_of, n_of, root_at, weight_at}
use Rattle.blocks.specs.Weights.{quorum_of, weight_of}
use Rattle.handover_blocks.proofs.Below.{one_more_below}
use Rattle.handover_blocks.proofs.Texts.{one_or_two}
use Rattle.handover_steps.specs.Successors.{IsChangedByAQuorum, IsChangedWeight, IsKept, IsSameKey}

-- it holds, or not
abbrev Or : Type 0 → Type 0
Or P = P ⊎ (P → ⊥)

below_or_not : (a b : ℕ) → Or (a < b)
below_or_not a b = elim (cases_lt a b) [ inl l ↦ inl l | inr l ↦ inr (λ h. absurd (omega arith)) ]

one_number_or_not : (a b : ℕ) → Or (a ≡ b)
one_number_or_not a b =
    elim (cases_lt a b) [
      | inl l ↦ inr (λ e. absurd (omega arith))
      | inr l ↦ elim (cases_lt b a) [ inl m ↦ inr (λ e. absurd (omega arith)) | inr m ↦ inl (omega arith) ]
    ]

all_or_not : (P : ℕ → Type 0) → ((k : ℕ) → Or (P k)) → (n : ℕ) → Or ((k : ℕ) → k < n → P k)
all_or_not P each zero = inl (λ k l. absurd (omega arith))
all_or_not P each (suc n) =
    elim (all_or_not P each n) [
      | inl all ↦ elim (each n) [
        | inl last ↦ inl (λ k l. one_more_below P n all last k (omega arith))
        | inr none ↦ inr (λ every. none (every n (omega arith)))
      ]
      | inr none ↦ inr (λ every. none (λ k l. every k (omega arith)))
    ]

same_key_or_not : (old new : List ℕ) (slot k : ℕ) → Or (IsSameKey old new slot k)
same_key_or_not old new slot k =
    elim (one_or_two (key_id_at old slot k) (key_id_at new slot k)) [
      | inl e ↦ elim (one_or_two (root_at old slot k) (root_at new slot k)) [
        | inl f ↦ inl (record { key_id = e; root = f })
        | inr d ↦ inr (λ same. d same.root)
      ]
      | inr d ↦ inr (λ same. d same.key_id)
    ]

kept_or_not : (old new : List ℕ) (slot : ℕ) → Or (IsKept old new slot)
kept_or_not old new slot =
    elim (below_or_not slot (n_of old)) [
      | inl a ↦ elim (below_or_not slot (n_of new)) [
        | inl b ↦ elim (one_number_or_not (keys_of old slot) (keys_of new slot)) [
          | inl c ↦ elim (all_or_not (λ k. IsSameKey old new slot k) (same_key_or_not old new slot) (keys_of old slot)) [
            | inl d ↦ inl (record { known = a; still = b; as_many = c; each = d })
            | inr none ↦ inr (λ kept. none kept.each)
          ]
          | inr none ↦ inr (λ kept. none kept.as_many)
        ]
        | inr none ↦ inr (λ kept. none kept.still)
      ]
      | inr none ↦ inr (λ kept. none kept.known)
    ]

fails : {P : Type 0} → Or P → Bool
fails (inl p) = false
fails (inr n) = true

fails_is : {P : Type 0} (o : Or P) → IsFalse (fails o) ↔ P
unfolding fails
fails_is (inl p) = (λ t. p, λ q. refl)
fails_is (inr n) = (λ t. absurd cc, λ q. absurd (n q))

-- whether a slot is not kept
pub is_changed : (old new : List ℕ) → ℕ → Bool
is_changed old new slot = fails (kept_or_not old new slot)

pub changed_exact : (old new : List ℕ) (slot : ℕ) → IsFalse (is_changed old new slot) ↔ IsKept old new slot
unfolding is_changed
changed_exact old new slot = fails_is (kept_or_not old new slot)

-- two tests of one fact answer the same
pub one_answer : {P : Type 0} (a b : Bool) → (IsFalse a ↔ P) → (IsFalse b ↔ P) → a ≡ b
one_answer true true f g = refl
one_answer false false f g = refl
one_answer true false f g = f.1 (g.0 refl)
one_answer false true f g = sym (g.1 (f.0 refl))

one_sum : (w : ℕ → ℕ) (f g : ℕ → Bool) (n : ℕ) → ((r : ℕ) → f r ≡ g r) → weight_of w f n ≡ weight_of w g n
one_sum w f g zero same = refl
one_sum w f g (suc n) same =
    let before = one_sum w f g n same in
    (λ i. before i + cond (same n i) (w n) 0)

-- there is one such weight
pub one_weight : (old new : List ℕ) (v w : ℕ) → IsChangedWeight old new v → IsChangedWeight old new w → v ≡ w
one_weight old new v w a b =
    a.sum ∙ one_sum (weight_at old) a.is_changed b.is_changed (n_of old) (λ r. one_answer _ _ (a.exact r) (b.exact r)) ∙ sym b.sum

-- where it is less than a quorum the slots that are not kept don't weigh one
pub not_a_quorum : (old new : List ℕ) (w : ℕ) → IsChangedWeight old new w → w < quorum_of old → IsChangedByAQuorum old new → ⊥
not_a_quorum old new w is less changed =
    let same : changed.weight ≡ w = one_weight old new changed.weight w changed.changed is in
    let enough : quorum_of old ≤ changed.weight = changed.enough in
    omega arith
