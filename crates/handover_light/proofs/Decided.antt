-- Which numbers are of a kind can be supposed to be known, where a contradiction is to be found.
use Rattle.std.proofs.Common.{◌≡◌, ◌↔◌, ℕ, zero, suc, ◌<◌, List, [], ◌∷◌, ◌++◌, length, get_or, sym, subst, inl, inr, arith}
use Rattle.std.specs.List.{AllPairs, Contains}
use Rattle.std.proofs.lemmas.Bool.{cases_lt}
use Rattle.std.proofs.lemmas.List.{get_or_default}
use Rattle.std.proofs.lemmas.List.Elements.{Contains-append_left, Contains-append_right}
use Rattle.std.proofs.lemmas.List.Quantifiers.{all_pairs_push}
use Rattle.blocks.proofs.Members.{Contains-first, Has-from_Contains}
use Rattle.blocks.proofs.Within.{either_of, none_in}

-- those below n, rising
pub record AreThoseBelow (P : ℕ → Type 0) (n : ℕ) (ks : List ℕ) : Type 0 where
  pub rising : AllPairs (λ j k. j < k) ks
  pub exact : (k : ℕ) → Contains ks k ↔ ((k < n) × P k)

below_at : (P : ℕ → Type 0) (n : ℕ) (ks : List ℕ) (k d : ℕ) → AreThoseBelow P n ks → k < length ks → get_or ks k d < n
below_at P n ks k d are inside = ((are.exact (get_or ks k d)).0 (k, inside, sym (get_or_default ks k d (get_or ks k d) inside))).0

with_last : (P : ℕ → Type 0) (n : ℕ) (ks : List ℕ) → AreThoseBelow P n ks → P n → AreThoseBelow P (suc n) (ks ++ n ∷ [])
with_last P n ks are here = record {
  rising = all_pairs_push (λ j k. j < k) ks n are.rising (λ k d inside. below_at P n ks k d are inside);
  exact = λ k. (
    λ m. elim (either_of ks (n ∷ []) k m) [
      | inl a ↦ (let low = ((are.exact k).0 a).0 in omega arith, ((are.exact k).0 a).1)
      | inr a ↦ elim (Has-from_Contains (n ∷ []) k a) [ inl e ↦ (omega arith, subst P e here) | inr none ↦ absurd none ]
    ],
    λ both. elim (cases_lt k n) [
      | inl low ↦ Contains-append_left ks (n ∷ []) k ((are.exact k).1 (low, both.1))
      | inr past ↦ let e : n ≡ k = (let top = both.0 in omega arith) in Contains-append_right ks (n ∷ []) k (subst (λ (x : ℕ). Contains (n ∷ []) x) e (Contains-first n []))
    ],
  );
}

without_last : (P : ℕ → Type 0) (n : ℕ) (ks : List ℕ) → AreThoseBelow P n ks → (P n → ⊥) → AreThoseBelow P (suc n) ks
without_last P n ks are none = record {
  rising = are.rising;
  exact = λ k. (
    λ m. (let low = ((are.exact k).0 m).0 in omega arith, ((are.exact k).0 m).1),
    λ both. elim (cases_lt k n) [
      | inl low ↦ (are.exact k).1 (low, both.1)
      | inr past ↦ let e : k ≡ n = (let top = both.0 in omega arith) in absurd (none (subst P e both.1))
    ],
  );
}

pub suppose : (P : ℕ → Type 0) (n : ℕ) → ((ks : List ℕ) → AreThoseBelow P n ks → ⊥) → ⊥
suppose P zero deny = deny [] (record { rising = λ i j d before below. absurd (omega arith); exact = λ k. (λ m. absurd (none_in k m), λ both. absurd (let low = both.0 in omega arith)) })
suppose P (suc n) deny =
    suppose P n (λ ks are.
    let none : P n → ⊥ = λ here. deny (ks ++ n ∷ []) (with_last P n ks are here) in
    deny ks (without_last P n ks are none))
