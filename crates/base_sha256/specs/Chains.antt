-- Chains of SHA-256: each value is the hash of the chain's prefix of 22 bytes, the number of the step, and the
-- value before (RFC 8554, section 4.3).
use Rattle.std.specs.Prelude.{ℕ, zero, suc, List, [], ◌∷◌, ◌++◌, nat_le, if◌then◌else◌}
use Rattle.sha2.specs.Sha256.{sha256}

-- step j from the value x, of the chain whose prefix is `head`
unfoldable pub chain_step : List ℕ → ℕ → List ℕ → List ℕ
chain_step head j x = sha256 (head ++ j ∷ [] ++ x)

-- x after the steps from, from + 1, up to until - 1 of that chain
unfoldable pub chain_steps : List ℕ → ℕ → ℕ → List ℕ → List ℕ
chain_steps head from zero x = x
chain_steps head from (suc until) x =
    if nat_le from until then chain_step head until (chain_steps head from until x) else x
