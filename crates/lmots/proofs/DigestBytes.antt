-- Each item of a digest, and of the coefficients of one, is a byte.
use Rattle.std.proofs.Common.{ℕ, zero, suc, ◌<◌, List, [], ◌∷◌, ◌++◌, arith, slice_index}
use Rattle.std.specs.Int.{byte_at, bytes_high_first}
use Rattle.sha2.specs.Sha256.{sha256, digest_bytes, final_hash, initial_hash_256}
use Rattle.base_wire.specs.Pieces.{AreBytes}
use Rattle.lmots.specs.Signatures.{checksum, coefficients}

AreBytes-append : (xs ys : List ℕ) → AreBytes xs → AreBytes ys → AreBytes (xs ++ ys)
AreBytes-append [] ys hx hy i = hy i
AreBytes-append (x ∷ xs) ys hx hy zero = hx 0
AreBytes-append (x ∷ xs) ys hx hy (suc i) = AreBytes-append xs ys (λ k. hx (suc k)) hy i

byte_at-small : (k n : ℕ) → byte_at k n < 256
byte_at-small zero n = omega arith
byte_at-small (suc k) n = omega arith

AreBytes-number : (k n : ℕ) → AreBytes (bytes_high_first k n)
AreBytes-number zero n i = omega arith
AreBytes-number (suc k) n zero = byte_at-small k n
AreBytes-number (suc k) n (suc i) = AreBytes-number k n i

AreBytes-digest : (h : List ℕ) (n : ℕ) → AreBytes (digest_bytes h n)
unfolding digest_bytes
AreBytes-digest h zero i = omega arith
AreBytes-digest h (suc n) i = AreBytes-append (digest_bytes h n) _ (AreBytes-digest h n) (AreBytes-number 4 (slice_index h n)) i

pub AreBytes-sha256 : (m : List ℕ) → AreBytes (sha256 m)
unfolding sha256
AreBytes-sha256 m = AreBytes-digest (final_hash initial_hash_256 m) 8

pub AreBytes-coefficients : (hash : List ℕ) → AreBytes hash → AreBytes (coefficients hash)
unfolding coefficients
AreBytes-coefficients hash h = AreBytes-append hash _ h (AreBytes-number 2 (checksum hash))
