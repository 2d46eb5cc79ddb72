-- The signatures of LM-OTS with LMOTS_SHA256_N32_W8 (RFC 8554, sections 4.4 to 4.6), as functions on
-- lists of bytes. The RFC lets a signer choose C; this one takes it from its seed.
use Rattle.std.specs.Prelude.{◌≡◌, ℕ, ◌+◌, ◌-◌, ◌*◌, List, ◌++◌, length, sum_by, slice_index}
use Rattle.byteorder.specs.Endian.{big_bytes}
use Rattle.sha2.specs.Sha256.{sha256}
use Rattle.base_wire.specs.Pieces.{number_at, piece}
use Rattle.lmots.specs.declared.signatures.TheConstants.{OTS_SIGNATURE_LEN}
use Rattle.lmots.specs.Chains.{chain_steps, joined, key_of_ends, ots_private, prefix}

-- Q, the hash of a message under the randomizer c; 0x8181 is D_MESG (section 4.5)
unfoldable pub message_hash : List ℕ → ℕ → List ℕ → List ℕ → List ℕ
message_hash id q c message = sha256 (prefix id q 0x8181 ++ c ++ message)

-- the checksum of a hash: how many steps its bytes leave out (section 4.4)
unfoldable pub checksum : List ℕ → ℕ
checksum hash = sum_by (λ byte. 255 - byte) hash

-- the 34 coefficients of a hash: its bytes, and the two of its checksum (section 4.5)
unfoldable pub coefficients : List ℕ → List ℕ
coefficients hash = hash ++ big_bytes 2 (checksum hash)

-- the coefficients of a message under the randomizer c
abbrev pub message_coefficients : List ℕ → ℕ → List ℕ → List ℕ → List ℕ
message_coefficients id q c message = coefficients (message_hash id q c message)

-- ---- signing (section 4.5)

-- C, the randomizer that this signer chooses
unfoldable pub randomizer : List ℕ → List ℕ → ℕ → List ℕ
randomizer id seed q = ots_private id seed q 0xfffd

-- what a signer shows of chain i: its value after as many steps as the coefficient says
unfoldable pub signed_value : List ℕ → List ℕ → ℕ → List ℕ → ℕ → List ℕ
signed_value id seed q a i = chain_steps (prefix id q i) 0 (slice_index a i) (ots_private id seed q i)

-- the signature of a message: the type 4, C, and a value of each chain
unfoldable pub ots_signature : List ℕ → List ℕ → ℕ → List ℕ → List ℕ
ots_signature id seed q message =
    let c = randomizer id seed q in
    big_bytes 4 4 ++ c ++ joined (signed_value id seed q (message_coefficients id q c message)) 34

-- ---- verifying (section 4.6)

-- the bytes have the length and the type of a signature
pub record IsOtsSignature (signature : List ℕ) : Type 0 where
  pub long : length signature ≡ OTS_SIGNATURE_LEN
  pub ots_type : number_at 4 signature 0 ≡ 4

-- what a signature shows of chain i
abbrev pub shown_value : List ℕ → ℕ → List ℕ
shown_value signature i = piece 32 signature (36 + 32 * i)

-- where the signer ended chain i: the steps that the signature leaves
unfoldable pub continued : List ℕ → ℕ → List ℕ → List ℕ → ℕ → List ℕ
continued id q a signature i = chain_steps (prefix id q i) (slice_index a i) 255 (shown_value signature i)

-- Kc, the public key that a signature of a message leads to
unfoldable pub candidate_key : List ℕ → ℕ → List ℕ → List ℕ → List ℕ
candidate_key id q message signature =
    let c = piece 32 signature 4 in
    key_of_ends id q (continued id q (message_coefficients id q c message) signature)
