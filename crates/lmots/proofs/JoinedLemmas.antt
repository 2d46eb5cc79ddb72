-- Hashes of 32 bytes end to end, and pieces behind a front of known length.
use Rattle.std.proofs.Common.{◌≡◌, ℕ, zero, suc, ◌+◌, ◌*◌, ◌<◌, ◌≤◌, List, ◌++◌, refl, arith, length, drop, inl, inr}
use Rattle.std.proofs.lemmas.Bool.{cases_lt}
use Rattle.std.proofs.lemmas.List.{drop-append-le, drop_at, length-append, length-drop, take-append-le, take_all}
use Rattle.std.proofs.Math.Seq.{drop-append-add}
use Rattle.base_wire.specs.Pieces.{piece}
use Rattle.lmots.specs.Chains.{joined}

pub length-joined : (f : ℕ → List ℕ) (n : ℕ) → ((i : ℕ) → length (f i) ≡ 32) → length (joined f n) ≡ 32 * n
unfolding joined
length-joined f zero h = refl
length-joined f (suc n) h =
    let before = length-joined f n h in
    let last = h n in
    omega (arith, before, last, length-append (joined f n) (f n))

pub joined-same : (f g : ℕ → List ℕ) (n : ℕ) → ((i : ℕ) → i < n → f i ≡ g i) → joined f n ≡ joined g n
unfolding joined
joined-same f g zero h = refl
joined-same f g (suc n) h =
    let before = joined-same f g n (λ i lt. h i (omega arith)) in
    let last = h n (omega arith) in
    rw (before, last) refl

-- the hash i of those that are joined
pub piece-joined : (f : ℕ → List ℕ) (n i : ℕ) → ((i : ℕ) → length (f i) ≡ 32) → i < n → piece 32 (joined f n) (32 * i) ≡ f i
unfolding joined
piece-joined f zero i h lt = absurd (omega arith)
piece-joined f (suc n) i h lt =
    let long = length-joined f n h in
    elim (cases_lt i n) [
      | inl below ↦
          let part : 32 * i ≤ length (joined f n) = omega (arith, long) in
          let room : 32 ≤ length (drop (32 * i) (joined f n)) = omega (arith, long, length-drop (32 * i) (joined f n)) in
          rw (drop-append-le (32 * i) (joined f n) (f n) part, take-append-le 32 (drop (32 * i) (joined f n)) (f n) room)
          (piece-joined f n i h below)
      | inr above ↦
          let same : i ≡ n = omega arith in
          let last : length (f n) ≤ 32 = omega (arith, h n) in
          rw (same, drop_at (joined f n) (f n) (32 * n) long, take_all 32 (f n) last) refl
    ]

-- a piece behind a front of length k
pub piece_behind : (n : ℕ) (front rest : List ℕ) (k m at : ℕ) → length front ≡ k → at ≡ k + m
    → piece n (front ++ rest) at ≡ piece n rest m
piece_behind n front rest k m at long e =
    let place : at ≡ length front + m = omega (arith, long) in
    rw (place, drop-append-add front rest m) refl
