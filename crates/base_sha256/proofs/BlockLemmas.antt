-- The words of the block that a step hashes.
use Rattle.std.proofs.Common.{◌≡◌, ℕ, ◌<◌, ◌≤◌, ◌+◌, ◌-◌, ◌*◌, ◌/◌, ◌%◌, ◌^◌, List, [], ◌∷◌, ◌++◌, length, slice_index, arith, refl, ap, lit≤, lit<, ◌∙◌, length-append}
use Rattle.std.proofs.lemmas.List.{get_or_append_left, get_or-append_right}
use Rattle.std.specs.Int.{byte_at, from_be_bytes, w32}
use Rattle.sha2.specs.Sha256.{add32, padded_message, word_at}
use Rattle.base_sha256.specs.Lanes.{straddling_word}
use Rattle.base_sha256.proofs.OneBlock.{byte-padded, byte-padding}

-- what a step hashes
abbrev pub link : List ℕ → ℕ → List ℕ → List ℕ
link head j d = head ++ j ∷ [] ++ d

pub length-link : (head d : List ℕ) (j : ℕ) → length head ≡ 22 → length d ≡ 32 → length (link head j d) ≡ 55
length-link head d j ht hd =
    let one : length (j ∷ []) ≡ 1 = refl in
    omega (arith, length-append (head ++ j ∷ []) d, length-append head (j ∷ []), one)

byte_front : (head d : List ℕ) (j i : ℕ) → length head ≡ 22 → length d ≡ 32 → i < 22 → slice_index (padded_message (link head j d)) i ≡ slice_index head i
byte_front head d j i ht hd lt =
    let long = length-link head d j ht hd in
    let front : length (head ++ j ∷ []) ≡ 23 = omega (arith, length-append head (j ∷ [])) in
    byte-padded (link head j d) i (omega (arith, long))
    ∙ get_or_append_left (head ++ j ∷ []) d 0 i (omega (arith, front))
    ∙ get_or_append_left head (j ∷ []) 0 i (omega arith)

byte_step : (head d : List ℕ) (j : ℕ) → length head ≡ 22 → length d ≡ 32 → slice_index (padded_message (link head j d)) 22 ≡ j
byte_step head d j ht hd =
    let long = length-link head d j ht hd in
    let front : length (head ++ j ∷ []) ≡ 23 = omega (arith, length-append head (j ∷ [])) in
    byte-padded (link head j d) 22 (omega (arith, long))
    ∙ get_or_append_left (head ++ j ∷ []) d 0 22 (omega (arith, front))
    ∙ get_or-append_right head (j ∷ []) 22 22 0 ht (lit≤ tt)

byte_value : (head d : List ℕ) (j r : ℕ) → length head ≡ 22 → length d ≡ 32 → r < 32
    → slice_index (padded_message (link head j d)) (23 + r) ≡ slice_index d r
byte_value head d j r ht hd lt =
    let long = length-link head d j ht hd in
    let front : length (head ++ j ∷ []) ≡ 23 = omega (arith, length-append head (j ∷ [])) in
    let place : 23 + r - 23 ≡ r = omega arith in
    byte-padded (link head j d) (23 + r) (omega (arith, long))
    ∙ get_or-append_right (head ++ j ∷ []) d 23 (23 + r) 0 front (omega arith)
    ∙ ap (λ (k : ℕ). slice_index d k) place

pub word_front : (head d : List ℕ) (j i : ℕ) → length head ≡ 22 → length d ≡ 32 → i + 4 ≤ 22
    → word_at (padded_message (link head j d)) i ≡ word_at head i
word_front head d j i ht hd h =
    rw (
      byte_front head d j i ht hd (omega arith),
      byte_front head d j (i + 1) ht hd (omega arith),
      byte_front head d j (i + 2) ht hd (omega arith),
      byte_front head d j (i + 3) ht hd (omega arith),
    )
    refl

pub word_step : (head d : List ℕ) (j : ℕ) → length head ≡ 22 → length d ≡ 32
    → word_at (padded_message (link head j d)) 20 ≡ from_be_bytes w32 (slice_index head 20 ∷ slice_index head 21 ∷ j ∷ slice_index d 0 ∷ [])
word_step head d j ht hd =
    rw (
      byte_front head d j 20 ht hd (lit< tt),
      byte_front head d j 21 ht hd (lit< tt),
      byte_step head d j ht hd,
      byte_value head d j 0 ht hd (lit< tt),
    )
    refl

pub word_value : (head d : List ℕ) (j r a : ℕ) → length head ≡ 22 → length d ≡ 32 → r + 4 ≤ 32
    → a ≡ 23 + r → word_at (padded_message (link head j d)) a ≡ word_at d r
word_value head d j r a ht hd h at =
    let a1 : 23 + r + 1 ≡ 23 + (r + 1) = omega arith in
    let a2 : 23 + r + 2 ≡ 23 + (r + 2) = omega arith in
    let a3 : 23 + r + 3 ≡ 23 + (r + 3) = omega arith in
    rw (
      at,
      a1,
      a2,
      a3,
      byte_value head d j r ht hd (omega arith),
      byte_value head d j (r + 1) ht hd (omega arith),
      byte_value head d j (r + 2) ht hd (omega arith),
      byte_value head d j (r + 3) ht hd (omega arith),
    )
    refl

pub word_end : (head d : List ℕ) (j : ℕ) → length head ≡ 22 → length d ≡ 32
    → word_at (padded_message (link head j d)) 52 ≡ from_be_bytes w32 (slice_index d 29 ∷ slice_index d 30 ∷ slice_index d 31 ∷ 0x80 ∷ [])
word_end head d j ht hd =
    rw (
      byte_value head d j 29 ht hd (lit< tt),
      byte_value head d j 30 ht hd (lit< tt),
      byte_value head d j 31 ht hd (lit< tt),
      byte-padding (link head j d) 55 (length-link head d j ht hd) (lit≤ tt),
    )
    refl

-- ---- sums of parts

pub straddling_sum : (h lo : ℕ) → add32 (h * 256 % 2 ^ 32) (byte_at 3 lo) ≡ straddling_word h lo
straddling_sum h lo = omega arith

pub step_sum : (a b j v : ℕ) → a < 256 → b < 256 → j < 256
    → add32 (add32 (from_be_bytes w32 (a ∷ b ∷ 0 ∷ 0 ∷ [])) (j * 256 % 2 ^ 32)) (byte_at 3 v) ≡ from_be_bytes w32 (a ∷ b ∷ j ∷ byte_at 3 v ∷ [])
step_sum a b j v ha hb hj = omega arith

pub end_sum : (h : ℕ) → add32 (h * 256 % 2 ^ 32) 0x80 ≡ from_be_bytes w32 (byte_at 2 h ∷ byte_at 1 h ∷ byte_at 0 h ∷ 0x80 ∷ [])
end_sum h = omega arith

pub top_byte : (n : ℕ) → n < 2 ^ 32 → n / 2 ^ 24 ≡ byte_at 3 n
top_byte n h = omega arith
