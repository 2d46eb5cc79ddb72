-- What it says that there is no first answer, beside `wire`'s lemmas on the first one.
use Rattle.std.proofs.Common.{◌≡◌, ℕ, zero, suc, ◌<◌, Option, Some, None, refl, subst, arith, inl, inr}
use Rattle.std.proofs.lemmas.Bool.{cases_lt}
use Rattle.std.specs.Prelude.{Result}
use Rattle.base_wire.specs.Refusals.{first_of, or_else, unless}

-- neither of the two answers
pub both_none : {R : Type 0} (a b : Option R) → or_else a b ≡ None → (a ≡ None) × (b ≡ None)
both_none None b e = (refl, e)
both_none (Some r) b e = absurd cc

-- no answer and no other is none
pub else_none : {R : Type 0} (a b : Option R) → a ≡ None → b ≡ None → or_else a b ≡ None
else_none None b e f = f
else_none (Some r) b e f = absurd cc

-- then there is no answer at any place
pub none_at : {R : Type 0} (f : ℕ → Option R) (n k : ℕ) → first_of f n ≡ None → k < n → f k ≡ None
unfolding first_of
none_at f zero k none below = absurd (omega arith)
none_at {R} f (suc n) k none below =
    let both = both_none (first_of f n) (f n) none in
    elim (cases_lt k n) [
      | inl before ↦ none_at f n k both.0 before
      | inr past ↦ let e : n ≡ k = omega arith in subst (λ (m : ℕ). f m ≡ None) e both.1
    ]

-- and where there is none at any place there is no first
pub none_of : {R : Type 0} (f : ℕ → Option R) (n : ℕ) → ((k : ℕ) → k < n → f k ≡ None) → first_of f n ≡ None
unfolding first_of
none_of f zero none = refl
none_of {R} f (suc n) none =
    let before : first_of f n ≡ None = none_of f n (λ k below. none k (omega arith)) in
    let here : f n ≡ None = none n (omega arith) in
    rw (before, here) refl

-- a search that finds no refusal goes on
pub unless_none : {A R : Type 0} (o : Option R) (next to : Result A R) → o ≡ None → next ≡ to → unless o next ≡ to
unless_none None next to e f = f
unless_none (Some r) next to e f = absurd cc
