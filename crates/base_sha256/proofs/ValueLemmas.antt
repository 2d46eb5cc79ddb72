-- Values of 32 bytes, and the words that they are in a lane.
use Rattle.std.proofs.Common.{◌≡◌, ℕ, zero, suc, ◌<◌, ◌≤◌, ◌+◌, ◌*◌, List, [], ◌∷◌, ◌++◌, length, take, slice_index, slice_index_or, arith, refl, sym, append_assoc, ◌∙◌}
use Rattle.std.proofs.lemmas.List.{take_all, take_more}
use Rattle.std.proofs.lemmas.Nat.{be_bytes_4}
use Rattle.std.specs.Int.{byte_at, from_be_bytes, to_be_bytes, w32}
use Rattle.sha2.specs.Sha256.{digest_bytes, word_at}
use Rattle.base_sha256.specs.Lanes.{lane, straddling_word}
use Rattle.base_sha256.proofs.Counting.{below_eight}
use Rattle.base_sha256.proofs.LaneLemmas.{slice_index-lane}

pub length-digest : (h : List ℕ) → length (digest_bytes h 8) ≡ 32
unfolding digest_bytes
length-digest h = refl

four_small : (a b c d : ℕ) → a < 256 → b < 256 → c < 256 → d < 256 → (i : ℕ) → slice_index (a ∷ b ∷ c ∷ d ∷ []) i < 256
four_small a b c d ha hb hc hd zero = ha
four_small a b c d ha hb hc hd (suc zero) = hb
four_small a b c d ha hb hc hd (suc (suc zero)) = hc
four_small a b c d ha hb hc hd (suc (suc (suc zero))) = hd
four_small a b c d ha hb hc hd (suc (suc (suc (suc i)))) = omega arith

-- the words of the first values
take_four : (xs : List ℕ) (i : ℕ) → i + 4 ≤ length xs
    → take (i + 4) xs ≡ take i xs ++ (slice_index xs i ∷ slice_index xs (i + 1) ∷ slice_index xs (i + 2) ∷ slice_index xs (i + 3) ∷ [])
take_four xs i h =
    let e1 : take (i + 1) xs ≡ take i xs ++ slice_index xs i ∷ [] = take_more xs i 0 (omega arith) in
    let e2 : take (i + 1 + 1) xs ≡ take (i + 1) xs ++ slice_index xs (i + 1) ∷ [] = take_more xs (i + 1) 0 (omega arith) in
    let e3 : take (i + 2 + 1) xs ≡ take (i + 2) xs ++ slice_index xs (i + 2) ∷ [] = take_more xs (i + 2) 0 (omega arith) in
    let e4 : take (i + 3 + 1) xs ≡ take (i + 3) xs ++ slice_index xs (i + 3) ∷ [] = take_more xs (i + 3) 0 (omega arith) in
    let a2 : i + 1 + 1 ≡ i + 2 = omega arith in
    let a3 : i + 2 + 1 ≡ i + 3 = omega arith in
    let a4 : i + 3 + 1 ≡ i + 4 = omega arith in
    let f2 = rw a2 at e2 in
    let f3 = rw a3 at e3 in
    let f4 = rw a4 at e4 in
    rw (f4, f3, f2, e1, append_assoc, append_assoc, append_assoc) refl

value_prefix : (x v : List ℕ) (n : ℕ) → 4 * n ≤ length x → ((i : ℕ) → slice_index x i < 256)
    → ((k : ℕ) → k < n → slice_index v k ≡ word_at x (4 * k)) → digest_bytes v n ≡ take (4 * n) x
unfolding digest_bytes
value_prefix x v zero room bytes words = refl
value_prefix x v (suc n) room bytes words =
    let front = value_prefix x v n (omega arith) bytes (λ k lt. words k (omega arith)) in
    let four = slice_index x (4 * n) ∷ slice_index x (4 * n + 1) ∷ slice_index x (4 * n + 2) ∷ slice_index x (4 * n + 3) ∷ [] in
    let small : (i : ℕ) → slice_index four i < 256 = λ i. four_small (slice_index x (4 * n)) _ _ _ (bytes _) (bytes _) (bytes _) (bytes _) i in
    let last : to_be_bytes w32 (slice_index v n) ≡ four = be_bytes_4 four (slice_index v n) refl small (words n (omega arith)) in
    let at : 4 * suc n ≡ 4 * n + 4 = omega arith in
    rw (front, last, at) (sym (take_four x (4 * n) (omega arith)))

-- the words of a value are the value
pub value_words : (x v : List ℕ) → length x ≡ 32 → ((i : ℕ) → slice_index x i < 256)
    → ((k : ℕ) → k < 8 → slice_index v k ≡ word_at x (4 * k)) → digest_bytes v 8 ≡ x
value_words x v long bytes words =
    value_prefix x v 8 (omega arith) bytes words ∙ take_all 32 x (omega arith)

-- ---- the bytes of a value in a lane

pub first_byte : (v : List (List ℕ)) (l : ℕ) → slice_index (digest_bytes (lane l v) 8) 0 ≡ byte_at 3 (slice_index (slice_index_or v 0 []) l)
unfolding digest_bytes
first_byte v l = rw (slice_index-lane v l 0) refl

abbrev Straddles : List (List ℕ) → ℕ → ℕ → Type 0
Straddles v l k = k < 7 → word_at (digest_bytes (lane l v) 8) (4 * k + 1)
    ≡ straddling_word (slice_index (slice_index_or v k []) l) (slice_index (slice_index_or v (k + 1) []) l)

pub straddling_in : (v : List (List ℕ)) (l k : ℕ) → k < 8 → Straddles v l k
unfolding digest_bytes
straddling_in v l =
    below_eight (Straddles v l)
    (λ _. rw (slice_index-lane v l 0, slice_index-lane v l 1) refl)
    (λ _. rw (slice_index-lane v l 1, slice_index-lane v l 2) refl)
    (λ _. rw (slice_index-lane v l 2, slice_index-lane v l 3) refl)
    (λ _. rw (slice_index-lane v l 3, slice_index-lane v l 4) refl)
    (λ _. rw (slice_index-lane v l 4, slice_index-lane v l 5) refl)
    (λ _. rw (slice_index-lane v l 5, slice_index-lane v l 6) refl)
    (λ _. rw (slice_index-lane v l 6, slice_index-lane v l 7) refl)
    (λ no. absurd (omega arith))

pub end_in : (v : List (List ℕ)) (l : ℕ) → let d = digest_bytes (lane l v) 8 in let h = slice_index (slice_index_or v 7 []) l in
    from_be_bytes w32 (byte_at 2 h ∷ byte_at 1 h ∷ byte_at 0 h ∷ 0x80 ∷ [])
    ≡ from_be_bytes w32 (slice_index d 29 ∷ slice_index d 30 ∷ slice_index d 31 ∷ 0x80 ∷ [])
unfolding digest_bytes
end_in v l = rw (slice_index-lane v l 7) refl
