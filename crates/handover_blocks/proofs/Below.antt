-- What holds of all numbers below another.
use Rattle.std.proofs.Common.{◌≡◌, ◌<◌, ◌≤◌, ◌+◌, ℕ, subst, inl, inr, arith}
use Rattle.std.proofs.lemmas.Bool.{cases_lt}

-- one more
pub one_more_below : (P : ℕ → Type 0) (n : ℕ) → ((j : ℕ) → j < n → P j) → P n → (j : ℕ) → j < n + 1 → P j
one_more_below P n all last j less =
    elim (cases_lt j n) [
      | inl l ↦ all j l
      | inr l ↦ let same : n ≡ j = omega arith in subst P same last
    ]

-- up to an end that is not behind
pub up_to : (P : ℕ → Type 0) (n end : ℕ) → end ≤ n → ((j : ℕ) → j < n → P j) → (j : ℕ) → j < end → P j
up_to P n end behind all j less = all j (omega arith)
