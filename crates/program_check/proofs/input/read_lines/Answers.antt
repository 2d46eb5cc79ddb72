use Rattle.std.proofs.Common.{◌≡◌, ◌∙◌, ◌<◌, ◌≤◌, ℕ, List, Option, IfSome, ap, arith, inl, inr, length, refl}
use Rattle.std.specs.Prelude.{min, take}
use Rattle.std.proofs.Math.Nat.{min-eq_left}
use Rattle.std.proofs.lemmas.Bool.{cases_lt}
use Rattle.std.proofs.lemmas.List.{length-take, take_all}
use Rattle.std.proofs.lemmas.Option.{IfSome_then}
use Rattle.program_check.proofs.Spelling.{too_much}
use Rattle.program_check.proofs.input.read_lines.Goals as goal

-- a text that ends before the limit of a reading is all that there was
few : (n m read : ℕ) → read ≡ min n m → read < n → m ≤ n
few n m read is below =
    elim (cases_lt m n) [
      | inl less ↦ omega (arith, less)
      | inr more ↦ absurd (omega (arith, is ∙ min-eq_left more, below))
    ]

whole : (n : ℕ) (all text : List ℕ) → text ≡ take n all → length text < n → text ≡ all
whole n all text is below =
    let long = ap (λ (l : List ℕ). length l) is ∙ length-take n all in
    is ∙ take_all n all (few n (length all) (length text) long below)

pub returns-in-Ok-clause-whole : goal.returns-in-Ok-clause-whole
returns-in-Ok-clause-whole g c =
    let below = c.if-len-le-MOST_OF_STDIN.true in
    let long = c.len.ensures in
    IfSome_then _ c.in-Ok.ensures.first (λ all is. whole 65537 all c.in-Ok.text.items is (omega (arith, below, long)))

pub returns-in-Ok-2-clause-refused : goal.returns-in-Ok-2-clause-refused
returns-in-Ok-2-clause-refused g c =
    let more = c.if-len-le-MOST_OF_STDIN.false in
    let long = c.len.ensures in
    inr (refl, too_much _ c.in-Ok.text.items 65537 c.in-Ok.ensures.first (omega (arith, more, long)))
