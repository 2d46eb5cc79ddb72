-- Refusals in their order: a reading is a chain of tests, and what refuses is the first that fails.
use Rattle.std.specs.Prelude.{ℕ, zero, suc, List, [], ◌∷◌, Option, Some, None, Result, Err, Bool, true, false, nat_eq, ⊤}
use Rattle.std.specs.Bool.{MatchBool}

-- ---- a chain of tests as a value

-- what stands behind a test: its refusal where it fails, else what comes next
abbrev pub need : {A R : Type 0} → Bool → R → Result A R → Result A R
need true r next = next
need false r next = Err r

-- what stands behind a search for a refusal
abbrev pub unless : {A R : Type 0} → Option R → Result A R → Result A R
unless None next = next
unless (Some r) next = Err r

-- the first of two answers
abbrev pub or_else : {R : Type 0} → Option R → Option R → Option R
or_else (Some r) later = Some r
or_else None later = later

-- the first answer among f 0, f 1, up to f (n - 1)
unfoldable pub first_of : {R : Type 0} → (ℕ → Option R) → ℕ → Option R
first_of f zero = None
first_of f (suc n) = or_else (first_of f n) (f n)

-- ---- a list of refusals, each with its test

-- each of these is passed
abbrev pub AllPassed : {R : Type 0} → (R → Type 0) → List R → Type 0
AllPassed passed [] = ⊤
AllPassed passed (r ∷ rs) = passed r × AllPassed passed rs

-- r is the first of these that is not passed
abbrev pub IsFirst : {R : Type 0} → (R → ℕ) → (R → Type 0) → List R → R → Type 0
IsFirst number passed [] r = ⊥
IsFirst number passed (x ∷ xs) r =
    MatchBool (nat_eq (number x) (number r)) (passed x → ⊥) (passed x × IsFirst number passed xs r)
