-- The block of 55 bytes that a step of a chain hashes.
use Rattle.std.proofs.Common.{◌≡◌, ℕ, ◌+◌, List, [], ◌∷◌, ◌++◌, sym, ◌∙◌, arith, append_assoc, length, take, drop, set}
use Rattle.std.proofs.lemmas.List.{drop_at, length-take-le, set_split, take-append-le, take-take}
use Rattle.base_wire.proofs.Numbers.{filled}

-- a block after the number of a step was written: the prefix, the number and the value
pub numbered : (block : List ℕ) (j : ℕ) → length block ≡ 55 → set block 22 j ≡ take 22 block ++ j ∷ [] ++ drop 23 block
numbered block j long =
    set_split block 22 j (omega arith) ∙ sym (append_assoc (take 22 block) (j ∷ []) (drop 23 block))

-- a block after a value was written: its prefix is as before, and the value stands behind it
pub valued : (old new value : List ℕ) → length old ≡ 55 → length new ≡ length old → length value ≡ 32
    → take (23 + length value) new ≡ take 23 old ++ value
    → (take 22 new ≡ take 22 old) × (drop 23 new ≡ value)
valued old new value long kept hash written =
    let whole : new ≡ take 23 old ++ value = filled (23 + length value) new (take 23 old ++ value) (omega arith) written in
    let front : length (take 23 old) ≡ 23 = length-take-le 23 old (omega arith) in (
      rw whole (take-append-le 22 (take 23 old) value (omega arith) ∙ take-take 22 23 old (omega arith)),
      rw whole (drop_at (take 23 old) value 23 front),
    )
