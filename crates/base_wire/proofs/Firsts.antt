-- The first answer, as a loop finds it.
use Rattle.std.proofs.Common.{◌≡◌, ℕ, zero, suc, ◌+◌, ◌<◌, Option, Some, None, refl, arith, add-one}
use Rattle.std.proofs.Common.{inl, inr}
use Rattle.std.proofs.lemmas.Bool.{cases_lt}
use Rattle.base_wire.specs.Refusals.{first_of}

-- none so far
pub first_none : {R : Type 0} (f : ℕ → Option R) → first_of f 0 ≡ None
unfolding first_of
first_none f = refl

-- no answer at n either
pub first_more : {R : Type 0} (f : ℕ → Option R) (n : ℕ) → first_of f n ≡ None → f n ≡ None → first_of f (n + 1) ≡ None
unfolding first_of
first_more f n before here = rw (add-one, before) here

-- the first answer is that at k
pub first_at : {R : Type 0} (f : ℕ → Option R) (n k : ℕ) (r : R) → first_of f k ≡ None → f k ≡ Some r → k < n → first_of f n ≡ Some r
unfolding first_of
first_at f zero k r before here lt = absurd (omega arith)
first_at f (suc n) k r before here lt =
    elim (cases_lt k n) [
      | inl below ↦ rw (first_at f n k r before here below) refl
      | inr past ↦ let e : n ≡ k = omega arith in rw (e, before) here
    ]
