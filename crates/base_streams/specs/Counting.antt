-- How the failures of a device are counted.
use Rattle.std.specs.Prelude.{ℕ, ◌≡◌, ◌≤◌, ◌+◌, ◌-◌, ◌^◌, Result, OnOk, OnErr, min}

-- the count after one failure more, which stops at the last number of 64 bits
abbrev pub one_more : ℕ → ℕ
one_more failures = min (failures + 1) (2 ^ 64 - 1)

-- the count after a call: one more exactly where the call failed
pub record Counts {T E : Type 0} (before after : ℕ) (outcome : Result T E) : Type 0 where
  pub kept : OnOk outcome (after ≡ before)
  pub risen : OnErr outcome (after ≡ one_more before)

-- a failure was counted in between, or the count stood at its last value
abbrev pub HasFailed : ℕ → ℕ → Type 0
HasFailed before after = one_more before ≤ after

-- a call that blames the device was failed by it, and else the device did not fail
pub record BlamesDevice (blamed : Type 0) (before after : ℕ) : Type 0 where
  pub cause : blamed → HasFailed before after
  pub kept : (blamed → ⊥) → after ≡ before
