-- The chains of four one-time keys.
use Rattle.std.proofs.Common.{◌≡◌, ℕ, ◌+◌, ◌*◌, ◌/◌, ◌%◌, ◌<◌, ◌∙◌, List, refl, ap, arith}
use Rattle.base_sha256.proofs.ChainLemmas.{steps_none, steps_more}
use Rattle.lmots.specs.Chains.{chain_end, chain_step, chain_steps, ots_private, prefix}
use Rattle.lmots.specs.FourKeys.{chain_end_of}

-- where a chain begins is one step from the seed
pub private_is_step : (id seed : List ℕ) (q i : ℕ) → chain_steps (prefix id q i) 255 256 seed ≡ ots_private id seed q i
unfolding ots_private chain_step
private_is_step id seed q i =
    let p = prefix id q i in
    steps_more p 255 255 seed (omega arith) ∙ ap (λ (x : List ℕ). chain_step p 255 x) (steps_none p 255 255 seed (omega arith))

-- chain i of the key k
pub end_of_key : (id seed : List ℕ) (q k i : ℕ) → i < 34 → chain_end_of id seed q (k * 34 + i) ≡ chain_end id seed (q + k) i
unfolding chain_end_of
end_of_key id seed q k i lt =
    let key : (k * 34 + i) / 34 ≡ k = omega (arith, lt) in
    let chain : (k * 34 + i) % 34 ≡ i = omega (arith, lt) in
    rw (key, chain) refl
