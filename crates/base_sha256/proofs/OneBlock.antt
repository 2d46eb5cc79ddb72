-- A message of 55 bytes fills one block with its padding.
use Rattle.std.proofs.Common.{◌≡◌, ℕ, ◌<◌, ◌≤◌, ◌-◌, ◌/◌, List, length, take, slice_index, arith, refl, ap, lit≤, ◌∙◌, length-append}
use Rattle.std.proofs.lemmas.List.{get_or_append_left, get_or-append_right, take_all}
use Rattle.sha2.specs.Sha256.{compress, digest_bytes, hash_after, initial_hash_256, padded_message, padding, sha256, word_at}

pub length-padded : (m : List ℕ) → length m ≡ 55 → length (padded_message m) ≡ 64
length-padded m long =
    let rest : length (padding (length m)) ≡ 9 = rw long refl in
    omega (arith, length-append m (padding (length m)), rest, long)

pub one_block : (m : List ℕ) → length m ≡ 55
    → sha256 m ≡ digest_bytes (compress initial_hash_256 (padded_message m)) 8
unfolding sha256 hash_after
one_block m long =
    let p = padded_message m in
    let full : length p ≡ 64 = length-padded m long in
    let one : length p / 64 ≡ 1 = omega (arith, full) in
    let all : take 64 p ≡ p = take_all 64 p (omega (arith, full)) in
    rw one (ap (λ (b : List ℕ). digest_bytes (compress initial_hash_256 b) 8) all)

-- a byte of the message
pub byte-padded : (m : List ℕ) (i : ℕ) → i < length m → slice_index (padded_message m) i ≡ slice_index m i
byte-padded m i lt = get_or_append_left m (padding (length m)) 0 i lt

-- a byte of the padding
pub byte-padding : (m : List ℕ) (i : ℕ) → length m ≡ 55 → 55 ≤ i → slice_index (padded_message m) i ≡ slice_index (padding 55) (i - 55)
byte-padding m i long le =
    get_or-append_right m (padding (length m)) 55 i 0 long le ∙ rw long refl

-- the two words of the padding
pub zero_word : (m : List ℕ) → length m ≡ 55 → word_at (padded_message m) 56 ≡ 0
zero_word m long =
    rw (
      byte-padding m 56 long (lit≤ tt),
      byte-padding m 57 long (lit≤ tt),
      byte-padding m 58 long (lit≤ tt),
      byte-padding m 59 long (lit≤ tt),
    )
    refl

pub length_word : (m : List ℕ) → length m ≡ 55 → word_at (padded_message m) 60 ≡ 440
length_word m long =
    rw (
      byte-padding m 60 long (lit≤ tt),
      byte-padding m 61 long (lit≤ tt),
      byte-padding m 62 long (lit≤ tt),
      byte-padding m 63 long (lit≤ tt),
    )
    refl
