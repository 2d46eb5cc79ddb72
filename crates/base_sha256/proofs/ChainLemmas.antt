-- The steps of a chain, as a loop over them meets them.
use Rattle.std.proofs.Common.{◌≡◌, ℕ, zero, suc, ◌≤◌, ◌+◌, true, false, List, nat_le, arith, refl, add-one}
use Rattle.base_sha256.specs.Chains.{chain_step, chain_steps}

-- no step
pub steps_none : (head : List ℕ) (from until : ℕ) (x : List ℕ) → until ≤ from → chain_steps head from until x ≡ x
unfolding chain_steps
steps_none head from zero x h = refl
steps_none head from (suc k) x h =
    let above : nat_le from k ≡ false = grind arith in
    rw above refl

-- one step more
pub steps_more : (head : List ℕ) (from until : ℕ) (x : List ℕ) → from ≤ until
    → chain_steps head from (until + 1) x ≡ chain_step head until (chain_steps head from until x)
unfolding chain_steps
steps_more head from until x h =
    let below : nat_le from until ≡ true = grind arith in
    rw (add-one, below) refl
