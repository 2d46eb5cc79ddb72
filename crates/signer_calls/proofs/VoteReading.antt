-- A vote is spelled again by what is read of its bytes.
use Rattle.std.proofs.Common.{◌≡◌, ◌<◌, ℕ, zero, suc, List, [], ◌∷◌, ◌++◌, arith, length, refl, sym}
use Rattle.std.specs.Prelude.{slice_index}
use Rattle.byteorder.specs.Endian.{big_bytes}
use Rattle.base_wire.specs.Pieces.{AreBytes, number_at, piece}
use Rattle.base_wire.proofs.Numbers.{cut_last, piece-number_at, taken}

-- the one byte at a place
one_at : (bytes : List ℕ) (at : ℕ) → at < length bytes → piece 1 bytes at ≡ slice_index bytes at ∷ []
one_at [] at lt = absurd (omega (arith, lt))
one_at (x ∷ xs) zero lt = refl
one_at (x ∷ xs) (suc at) lt = one_at xs at (omega (arith, lt))

pub vote_again : (bytes : List ℕ) → AreBytes bytes → length bytes ≡ 1495
    → big_bytes 2 (number_at 2 bytes 0) ++ slice_index bytes 2 ∷ (big_bytes 8 (number_at 8 bytes 3) ++ (piece 32 bytes 11 ++ piece 1452 bytes 43)) ≡ bytes
vote_again bytes fit long =
    let signature = cut_last bytes 43 1452 long in
    let id = taken bytes 11 32 (piece 32 bytes 11) (piece 1452 bytes 43) refl signature in
    let view = taken bytes 3 8 (big_bytes 8 (number_at 8 bytes 3)) _ (piece-number_at 8 bytes 3 fit (omega (arith, long))) id in
    let key = taken bytes 2 1 (slice_index bytes 2 ∷ []) _ (one_at bytes 2 (omega (arith, long))) view in
    sym (taken bytes 0 2 (big_bytes 2 (number_at 2 bytes 0)) _ (piece-number_at 2 bytes 0 fit (omega (arith, long))) key)
