-- The equations of `joined`, as a loop meets them.
use Rattle.std.proofs.Common.{◌≡◌, ℕ, ◌+◌, List, ◌++◌, sym, add-one, append_assoc}
use Rattle.std.proofs.lemmas.List.{append-nil}
use Rattle.lmots.specs.Chains.{joined}

-- no piece yet
pub joined_none : (f : ℕ → List ℕ) (front : List ℕ) → front ++ joined f 0 ≡ front
unfolding joined
joined_none f front = append-nil front

-- one piece more
pub joined_more : (f : ℕ → List ℕ) (front : List ℕ) (n : ℕ)
    → front ++ joined f (n + 1) ≡ (front ++ joined f n) ++ f n
unfolding joined
joined_more f front n = rw add-one (sym (append_assoc front (joined f n) (f n)))
