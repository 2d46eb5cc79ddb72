-- A signature of a message leads back to the key that made it.
use Rattle.std.proofs.Common.{◌≡◌, ℕ, zero, suc, ◌+◌, ◌-◌, ◌*◌, ◌<◌, ◌≤◌, List, ◌++◌, refl, ap, ◌∙◌, arith, add-zero, length, slice_index, nat_le, if◌then◌else◌, true, false}
use Rattle.std.proofs.lemmas.List.{length-append, take_at}
use Rattle.byteorder.specs.Endian.{big_bytes}
use Rattle.sha2.specs.Sha256.{sha256}
use Rattle.sha2.proofs.Facts256.{length-sha256}
use Rattle.base_wire.specs.Pieces.{number_at, piece}
use Rattle.lmots.specs.Chains.{chain_end, chain_step, chain_steps, joined, key_of_ends, ots_private, ots_public_key, prefix}
use Rattle.lmots.specs.Signatures.{IsOtsSignature, candidate_key, continued, message_coefficients, message_hash, ots_signature, randomizer, signed_value}
use Rattle.base_sha256.proofs.ChainLemmas.{steps_none, steps_more}
use Rattle.lmots.proofs.DigestBytes.{AreBytes-coefficients, AreBytes-sha256}
use Rattle.lmots.proofs.JoinedLemmas.{joined-same, length-joined, piece-joined, piece_behind}

-- ---- chains

-- the steps up to a place, and then n more
pub steps-then : (p : List ℕ) (from mid n : ℕ) (x : List ℕ) → from ≤ mid
    → chain_steps p mid (mid + n) (chain_steps p from mid x) ≡ chain_steps p from (mid + n) x
steps-then p from mid zero x h = rw add-zero (steps_none p mid mid (chain_steps p from mid x) (omega arith))
steps-then p from mid (suc n) x h =
    let next : mid + suc n ≡ (mid + n) + 1 = omega arith in
    let here : mid ≤ mid + n = omega arith in
    let there : from ≤ mid + n = omega arith in
    let rest = steps-then p from mid n x h in
    rw next (rw (steps_more p mid (mid + n) (chain_steps p from mid x) here, steps_more p from (mid + n) x there, rest) refl)

-- a chain that is cut anywhere has the same end
chain-cut : (p : List ℕ) (a : ℕ) (x : List ℕ) → a < 256
    → chain_steps p a 255 (chain_steps p 0 a x) ≡ chain_steps p 0 255 x
chain-cut p a x h =
    let total : a + (255 - a) ≡ 255 = omega arith in
    let low : 0 ≤ a = omega arith in
    rw total at (steps-then p 0 a (255 - a) x low)

length-chain_steps : (p : List ℕ) (from until : ℕ) (x : List ℕ) → length x ≡ 32 → length (chain_steps p from until x) ≡ 32
unfolding chain_steps chain_step
length-chain_steps p from zero x h = h
length-chain_steps p from (suc until) x h =
    elim (nat_le from until) as (λ v. length (if v then chain_step p until (chain_steps p from until x) else x) ≡ 32) [
      | true ↦ length-sha256 _
      | false ↦ h
    ]

-- ---- the signature's parts

length-ots_private : (id seed : List ℕ) (q i : ℕ) → length (ots_private id seed q i) ≡ 32
unfolding ots_private
length-ots_private id seed q i = length-sha256 _

length-randomizer : (id seed : List ℕ) (q : ℕ) → length (randomizer id seed q) ≡ 32
unfolding randomizer
length-randomizer id seed q = length-ots_private id seed q 0xfffd

length-signed_value : (id seed : List ℕ) (q : ℕ) (a : List ℕ) (i : ℕ) → length (signed_value id seed q a i) ≡ 32
unfolding signed_value
length-signed_value id seed q a i =
    length-chain_steps (prefix id q i) 0 (slice_index a i) _ (length-ots_private id seed q i)

-- the randomizer of a signature
signature-randomizer : (id seed : List ℕ) (q : ℕ) (message : List ℕ)
    → piece 32 (ots_signature id seed q message) 4 ≡ randomizer id seed q
unfolding ots_signature
signature-randomizer id seed q message =
    let c = randomizer id seed q in
    let long : length c ≡ 32 = length-randomizer id seed q in
    let values = joined (signed_value id seed q (message_coefficients id q c message)) 34 in
    piece_behind 32 (big_bytes 4 4) (c ++ values) 4 0 4 refl refl ∙ take_at c values 32 long

-- the value of chain i of a signature
signature-value : (id seed : List ℕ) (q : ℕ) (message : List ℕ) (i : ℕ) → i < 34
    → piece 32 (ots_signature id seed q message) (36 + 32 * i)
    ≡ signed_value id seed q (message_coefficients id q (randomizer id seed q) message) i
unfolding ots_signature
signature-value id seed q message i lt =
    let c = randomizer id seed q in
    let a = message_coefficients id q c message in
    let long : length (big_bytes 4 4 ++ c) ≡ 36 = omega (arith, length-append (big_bytes 4 4) c, length-randomizer id seed q) in
    piece_behind 32 (big_bytes 4 4 ++ c) (joined (signed_value id seed q a) 34) 36 (32 * i) (36 + 32 * i) long refl
    ∙ piece-joined (signed_value id seed q a) 34 i (length-signed_value id seed q a) lt

pub IsOtsSignature-ots_signature : (id seed : List ℕ) (q : ℕ) (message : List ℕ) → IsOtsSignature (ots_signature id seed q message)
unfolding ots_signature number_at
IsOtsSignature-ots_signature id seed q message =
    let c = randomizer id seed q in
    let a = message_coefficients id q c message in
    let values = length-joined (signed_value id seed q a) 34 (length-signed_value id seed q a) in
    record {
      long = omega (
        arith,
        length-append (big_bytes 4 4 ++ c) (joined (signed_value id seed q a) 34),
        length-append (big_bytes 4 4) c,
        length-randomizer id seed q,
        values,
      );
      ots_type = refl;
    }

-- ---- the law

-- each chain ends where the signer's ends
same-end : (id seed : List ℕ) (q : ℕ) (message : List ℕ) (i : ℕ) → i < 34
    → continued id q (message_coefficients id q (randomizer id seed q) message) (ots_signature id seed q message) i
    ≡ chain_end id seed q i
unfolding continued chain_end signed_value message_hash
same-end id seed q message i lt =
    let a = message_coefficients id q (randomizer id seed q) message in
    let small : slice_index a i < 256 = AreBytes-coefficients _ (AreBytes-sha256 _) i in
    rw (signature-value id seed q message i lt) (chain-cut (prefix id q i) (slice_index a i) (ots_private id seed q i) small)

-- keys of the same ends are the same
pub key-same : (id : List ℕ) (q : ℕ) (f g : ℕ → List ℕ) → ((i : ℕ) → i < 34 → f i ≡ g i) → key_of_ends id q f ≡ key_of_ends id q g
unfolding key_of_ends
key-same id q f g same = ap (λ (ends : List ℕ). sha256 (prefix id q 0x8080 ++ ends)) (joined-same f g 34 same)

same-key : (id seed : List ℕ) (q : ℕ) (message : List ℕ)
    → key_of_ends id q (continued id q (message_coefficients id q (randomizer id seed q) message) (ots_signature id seed q message))
    ≡ ots_public_key id seed q
same-key id seed q message =
    let a = message_coefficients id q (randomizer id seed q) message in
    key-same id q (continued id q a (ots_signature id seed q message)) (chain_end id seed q) (same-end id seed q message)

-- the candidate of what is signed is the signer's key
pub signed_verifies : (id seed : List ℕ) (q : ℕ) (message : List ℕ)
    → candidate_key id q message (ots_signature id seed q message) ≡ ots_public_key id seed q
unfolding candidate_key
signed_verifies id seed q message =
    rw (signature-randomizer id seed q message) (same-key id seed q message)
