-- The first four bytes of what came.
use Rattle.std.proofs.Common.{◌≡◌, ◌≤◌, ◌+◌, ◌-◌, ◌++◌, ◌∙◌, ℕ, List, length, take, min, ap, sym, arith, inl, inr}
use Rattle.std.proofs.Math.Seq.{take-append-add}
use Rattle.std.proofs.lemmas.Bool.{cases_lt}
use Rattle.std.proofs.lemmas.List.{length-take-le, take_all}

-- as many as there is room for, or all
same_front : (piece : List ℕ) (n room : ℕ) → n ≡ min (length piece) room → take n piece ≡ take room piece
same_front piece n room is =
    elim (cases_lt (length piece) room) [
      | inl few ↦ take_all n piece (omega (arith, is)) ∙ sym (take_all room piece (omega arith))
      | inr many ↦ ap (λ (k : ℕ). take k piece) (let same : n ≡ room = omega (arith, is) in same)
    ]

-- what is put behind those that came
pub taken : (bytes new piece cut : List ℕ) (have n : ℕ) → length bytes ≡ 4 → have ≤ 4 → n ≡ min (length piece) (4 - have) → cut ≡ take n piece
    → take (have + length cut) new ≡ take have bytes ++ cut → take (have + n) new ≡ take 4 (take have bytes ++ piece)
taken bytes new piece cut have n long within is same put =
    let size : length cut ≡ n = ap length same ∙ length-take-le n piece (omega (arith, is)) in
    let front : length (take have bytes) ≡ have = length-take-le have bytes (omega (arith, long)) in
    let split : take 4 (take have bytes ++ piece) ≡ take have bytes ++ take (4 - have) piece =
    ap (λ (k : ℕ). take k (take have bytes ++ piece)) (let sum : 4 ≡ length (take have bytes) + (4 - have) = omega (arith, front) in sum)
    ∙ take-append-add (take have bytes) piece (4 - have) in
    ap (λ (k : ℕ). take (have + k) new) (sym size) ∙ put ∙ ap (λ (t : List ℕ). take have bytes ++ t) (same ∙ same_front piece n (4 - have) is) ∙ sym split

-- fewer than four are no four
pub all_there : (bytes text : List ℕ) (have : ℕ) → length bytes ≡ 4 → have ≤ 4 → take have bytes ≡ text → length text ≡ 4 → have ≡ 4
all_there bytes text have long within is four = omega (arith, length-take-le have bytes (omega (arith, long)), ap length is, four)
