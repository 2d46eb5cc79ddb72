-- The keys of LM-OTS with LMOTS_SHA256_N32_W8 (RFC 8554, sections 3 and 4 and Appendix A), as functions
-- on lists of bytes. `id` is a key's id of 16 bytes, `seed` its seed of 32 bytes, and q the number of
-- one of its one-time keys. Each one-time key has 34 chains of 255 steps.
use Rattle.std.specs.Prelude.{◌≡◌, ◌<◌, ℕ, zero, suc, List, [], ◌∷◌, ◌++◌, slice_index_or}
use Rattle.byteorder.specs.Endian.{big_bytes}
use Rattle.sha2.specs.Sha256.{sha256}
-- the steps of a chain (section 4.3)
unfoldable pub use Rattle.base_sha256.specs.Chains.{chain_step, chain_steps}

-- what stands first in all that is hashed: the id, q, and the number of a chain or of a use
unfoldable pub prefix : List ℕ → ℕ → ℕ → List ℕ
prefix id q number = id ++ big_bytes 4 q ++ big_bytes 2 number

-- f 0, f 1, up to f (n - 1), end to end
unfoldable pub joined : (ℕ → List ℕ) → ℕ → List ℕ
joined f zero = []
joined f (suc n) = joined f n ++ f n

-- x_q[i], where chain i begins (Appendix A)
unfoldable pub ots_private : List ℕ → List ℕ → ℕ → ℕ → List ℕ
ots_private id seed q i = sha256 (prefix id q i ++ 0xff ∷ [] ++ seed)

-- y[i], where chain i ends (section 4.3)
unfoldable pub chain_end : List ℕ → List ℕ → ℕ → ℕ → List ℕ
chain_end id seed q i = chain_steps (prefix id q i) 0 255 (ots_private id seed q i)

-- K, the public key whose chains end in y 0, up to y 33; 0x8080 is D_PBLC (section 4.3)
unfoldable pub key_of_ends : List ℕ → ℕ → (ℕ → List ℕ) → List ℕ
key_of_ends id q y = sha256 (prefix id q 0x8080 ++ joined y 34)

-- the public key of a seed's one-time key q (section 4.3)
abbrev pub ots_public_key : List ℕ → List ℕ → ℕ → List ℕ
ots_public_key id seed q = key_of_ends id q (chain_end id seed q)

-- ---- ends that were computed apart

-- the end of chain i among these
abbrev pub end_in : List (List ℕ) → ℕ → List ℕ
end_in ends i = slice_index_or ends i []

-- each is where the chain of its number ends
abbrev pub AreEndsOf : List ℕ → List ℕ → ℕ → List (List ℕ) → Type 0
AreEndsOf id seed q ends = (i : ℕ) → i < 34 → end_in ends i ≡ chain_end id seed q i
