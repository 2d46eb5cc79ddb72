-- Where the keys of a slot are, and what is outside them.
use Rattle.std.proofs.Common.{◌≡◌, ◌≢◌, ◌⊎◌, ℕ, ◌+◌, ◌*◌, ◌<◌, ◌≤◌, Bool, true, false, List, length, inl, inr, ap, arith}
use Rattle.std.specs.Prelude.{if◌then◌else◌}
use Rattle.std.proofs.lemmas.Bool.{cases_lt}
use Rattle.blocks.specs.Committees.{IsCommittee, has_many_keys, has_weights, key_place, keys_of, n_of, place_of, room_of}
use Rattle.blocks.proofs.CommitteeLaws.{count_here, key_steps, place_below, place_within, room_ends}

-- ---- by the format

-- a slot begins behind the head of the file, and its keys do not begin before it
starts_in : (many weights : Bool) (s : ℕ) → (8 ≤ (if many then 8 + 232 * s else (if weights then 8 + 60 * s else 8 + 56 * s)))
starts_in true weights s = omega arith
starts_in false true s = omega arith
starts_in false false s = omega arith

pub past_head : (bytes : List ℕ) (s : ℕ) → 8 ≤ place_of bytes s
past_head bytes s = starts_in (has_many_keys bytes) (has_weights bytes) s

keys_in : (many weights : Bool) (at : ℕ) → at ≤ (if many then at + 8 + 56 * 0 else (if weights then at + 4 + 56 * 0 else at + 56 * 0))
keys_in true weights at = omega arith
keys_in false true at = omega arith
keys_in false false at = omega arith

pub keys_begin : (bytes : List ℕ) (s : ℕ) → place_of bytes s ≤ key_place bytes s 0
keys_begin bytes s = keys_in (has_many_keys bytes) (has_weights bytes) (place_of bytes s)

many_in : (many weights : Bool) (at : ℕ) → many ≡ true → at + 8 ≤ (if many then at + 8 + 56 * 0 else (if weights then at + 4 + 56 * 0 else at + 56 * 0))
many_in true weights at is = omega arith
many_in false weights at is = absurd cc

-- where there is room for several keys, a weight and a count stand before them
pub count_before : (bytes : List ℕ) (s : ℕ) → has_many_keys bytes ≡ true → place_of bytes s + 8 ≤ key_place bytes s 0
count_before bytes s is = many_in (has_many_keys bytes) (has_weights bytes) (place_of bytes s) is

-- ---- in a committee

-- the keys of a slot are in the slot, which is in the file
pub record HasKeysInside (old : List ℕ) (s : ℕ) : Type 0 where
  pub head : 8 ≤ place_of old s
  pub begin : place_of old s ≤ key_place old s 0
  pub end : key_place old s 0 + 56 * keys_of old s ≤ place_of old (s + 1)
  pub within : place_of old (s + 1) ≤ length old

pub keys_inside : (old : List ℕ) (s : ℕ) → IsCommittee old → s < n_of old → HasKeysInside old s
keys_inside old s is below =
    let few = (count_here old s is below).1 in
    let steps = key_steps old s (room_of old) in
    let ends = room_ends old s in
    record { head = past_head old s; begin = keys_begin old s; end = omega (arith, few, steps, ends); within = place_within old s is below }

-- n bytes from i on are outside the keys of a slot
abbrev pub IsBeside : List ℕ → ℕ → ℕ → ℕ → Type 0
IsBeside old n i s = (i + n ≤ key_place old s 0) ⊎ (key_place old s 0 + 56 * keys_of old s ≤ i)

-- .. of each slot
pub record IsOutside (old : List ℕ) (n i : ℕ) : Type 0 where
  pub each : (s : ℕ) → s < n_of old → IsBeside old n i s

-- the head of the file is
pub head_outside : (old : List ℕ) (n i : ℕ) → IsCommittee old → i + n ≤ 8 → IsOutside old n i
head_outside old n i is inside = record {
  each =
      λ s below.
      let at = keys_inside old s is below in
      let head = at.head in
      let begin = at.begin in
      inl (omega arith);
}

-- the keys of a slot end before a later one begins
pub keys_end : (old : List ℕ) (s t : ℕ) → IsCommittee old → s < n_of old → s < t → key_place old s 0 + 56 * keys_of old s ≤ place_of old t
keys_end old s t is there later =
    let end = (keys_inside old s is there).end in
    omega (arith, place_below old s t later)

-- what stands before the keys of a slot is
pub front_outside : (old : List ℕ) (n i t : ℕ) → IsCommittee old → t < n_of old → place_of old t ≤ i → i + n ≤ key_place old t 0 → IsOutside old n i
front_outside old n i t is there begins ends = record {
  each =
      λ s below.
      elim (cases_lt s t) [
        | inl before ↦ inr (let end = keys_end old s t is below before in omega arith)
        | inr past ↦
            elim (cases_lt t s) [
              | inl later ↦ inl (let end = keys_end old t s is there later in let begin = keys_begin old s in omega arith)
              | inr same ↦ inl (let one : t ≡ s = omega arith in let there : key_place old t 0 ≡ key_place old s 0 = ap (λ (u : ℕ). key_place old u 0) one in omega arith)
            ]
      ];
}

-- the keys of one slot are beside those of another
pub other_keys : (old : List ℕ) (s t k : ℕ) → IsCommittee old → s < n_of old → t < n_of old → s ≢ t → k < keys_of old t → IsBeside old 56 (key_place old t k) s
other_keys old s t k is below there other has =
    let place = key_steps old t k in
    elim (cases_lt s t) [
      | inl before ↦ inr (let end = keys_end old s t is below before in let begin = keys_begin old t in omega arith)
      | inr past ↦
          let later : t < s = omega (arith, other) in
          inl (let end = keys_end old t s is there later in let begin = keys_begin old s in omega arith)
    ]
