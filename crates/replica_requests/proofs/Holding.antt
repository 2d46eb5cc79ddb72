-- Bytes that are added to a line that is held.
use Rattle.std.proofs.Common.{◌≡◌, ◌+◌, ◌-◌, ◌<◌, ◌≤◌, ℕ, List, ◌++◌, [], ◌∷◌, Bool, true, length, take, min, nat_lt, refl, subst, sym, ap, ◌∙◌, inl, inr, arith}
use Rattle.std.proofs.lemmas.Bool.{cases_lt}
use Rattle.std.proofs.lemmas.Bool.Decides.{nat_tests}
use Rattle.std.proofs.lemmas.List.{append-nil, length-append, length-take, take_all, take_min, take-append-le}
use Rattle.std.proofs.Math.Seq.{take-append-add}
use Rattle.replica_requests.specs.Intakes.{HeldLine}

-- those for which there is room
pub room : (most : ℕ) (line piece : List ℕ) → take most line ++ take (min (most - length (take most line)) (length piece)) piece ≡ take most (line ++ piece)
room most line piece =
    ap (λ (t : List ℕ). take most line ++ t) (take_min (most - length (take most line)) piece) ∙ elim (cases_lt most (length line)) [
      | inl past ↦
          let none : most - length (take most line) ≡ 0 = simp length-take (omega arith) in
          ap (λ (k : ℕ). take most line ++ take k piece) none ∙ append-nil (take most line) ∙ sym (take-append-le most line piece (omega arith))
      | inr within ↦
          let whole = take_all most line within in
          let count : length line + (most - length line) ≡ most = omega arith in
          ap (λ (t : List ℕ). t ++ take (most - length t) piece) whole ∙ sym (take-append-add line piece (most - length line)) ∙ ap (λ (k : ℕ). take k (line ++ piece)) count
    ]

-- some have no room: the line is too long
pub past : (most : ℕ) (line piece : List ℕ) → min (most - length (take most line)) (length piece) < length piece → true ≡ nat_lt most (length (line ++ piece))
past most line piece less =
    let long : most < length line + length piece = omega (arith, length-take most line) in
    simp length-append (grind (arith, nat_tests))

-- all have: it is too long if it was
pub within : (most : ℕ) (line piece : List ℕ) → length piece ≤ min (most - length (take most line)) (length piece)
    → nat_lt most (length line) ≡ nat_lt most (length (line ++ piece))
within most line piece all =
    elim (cases_lt most (length line)) [
      | inl past ↦
          let long : most < length line + length piece = omega arith in
          simp length-append (grind (arith, nat_tests))
      | inr short ↦
          let whole = take_all most line short in
          let same = ap (λ (t : List ℕ). length t) whole in
          let few : length line + length piece ≤ most = omega arith in
          simp length-append (grind (arith, nat_tests))
    ]

-- nothing is held of an empty line alone
pub empty_if_none_held : (most : ℕ) (line : List ℕ) → 0 < most → length (take most line) ≡ 0 → line ≡ []
empty_if_none_held most [] some none = refl
empty_if_none_held most (x ∷ line) some none = absurd (omega (arith, length-take most (x ∷ line)))

-- ---- what is held behind an addition, from what was held of the line

-- of bytes some of which have no room
pub held_past : (most : ℕ) (line piece bytes bytes' : List ℕ) (n : ℕ) → bytes ≡ take most line → n ≡ min (most - length bytes) (length piece)
    → bytes' ≡ bytes ++ take n piece → n < length piece
    → (bytes' ≡ take most (line ++ piece)) × (true ≡ nat_lt most (length (line ++ piece)))
held_past most line piece bytes bytes' n held count added less =
    let count' = count ∙ ap (λ (b : List ℕ). min (most - length b) (length piece)) held in
    let some = subst (λ (k : ℕ). k < length piece) count' less in (
      added ∙ ap (λ (b : List ℕ). b ++ take n piece) held ∙ ap (λ (k : ℕ). take most line ++ take k piece) count' ∙ room most line piece,
      past most line piece some,
    )

-- of bytes that have room
pub held_within : (most : ℕ) (line piece bytes bytes' : List ℕ) (flag : Bool) (n : ℕ) → bytes ≡ take most line → flag ≡ nat_lt most (length line)
    → n ≡ min (most - length bytes) (length piece) → bytes' ≡ bytes ++ take n piece → length piece ≤ n
    → (bytes' ≡ take most (line ++ piece)) × (flag ≡ nat_lt most (length (line ++ piece)))
held_within most line piece bytes bytes' flag n held flags count added all =
    let count' = count ∙ ap (λ (b : List ℕ). min (most - length b) (length piece)) held in
    let each = subst (λ (k : ℕ). length piece ≤ k) count' all in (
      added ∙ ap (λ (b : List ℕ). b ++ take n piece) held ∙ ap (λ (k : ℕ). take most line ++ take k piece) count' ∙ room most line piece,
      flags ∙ within most line piece each,
    )

pub same_held : (bytes bytes' : List ℕ) (flag flag' : Bool) → (bytes ≡ bytes') × (flag ≡ flag')
    → record { bytes = bytes; is_too_long = flag } ≡ (let h : HeldLine = record { bytes = bytes'; is_too_long = flag' } in h)
same_held bytes bytes' flag flag' (a, b) = cc
