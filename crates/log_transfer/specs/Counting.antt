-- Failures that were counted.
use Rattle.std.specs.Prelude.{ℕ, ◌≡◌, Bool, true, false, Option, None, Some}
use Rattle.base_streams.specs.Counting.{one_more}
use Rattle.log_format.specs.declared.status.Status.{Status}
use Rattle.log_format.specs.declared.status.Status.TheVariants.{Whole, Cut, Broken, TooLong, Failed}
use Rattle.log_transfer.specs.declared.filling.Filled.{Filled}
use Rattle.log_transfer.specs.declared.filling.Filled.TheVariants.{All, Part}
use Rattle.log_transfer.specs.declared.stream.Came.{Came}
use Rattle.log_transfer.specs.declared.stream.Came.TheVariants.{Frame, End}
use Rattle.log_transfer.specs.declared.stream.Head.{Head}
use Rattle.log_transfer.specs.declared.stream.Head.TheVariants.{Length, Short}

-- the count behind a call that failed, or did not
abbrev pub count_after : Bool → ℕ → ℕ
count_after true before = one_more before
count_after false before = before

abbrev pub is_failed : Status → Bool
is_failed Whole = false
is_failed Cut = false
is_failed Broken = false
is_failed TooLong = false
is_failed Failed = true

-- one failure more where a stream ended as Failed, and none else
abbrev pub IsStatusCounted : ℕ → ℕ → Status → Type 0
IsStatusCounted before after status = after ≡ count_after (is_failed status) before

-- the same of parts of a stream
abbrev pub IsFillCounted : ℕ → ℕ → Filled → Type 0
IsFillCounted before after All = after ≡ before
IsFillCounted before after (Part n failed) = after ≡ count_after failed before

abbrev pub IsHeadCounted : ℕ → ℕ → Head → Type 0
IsHeadCounted before after (Length n) = after ≡ before
IsHeadCounted before after (Short failed) = after ≡ count_after failed before

abbrev pub IsCameCounted : ℕ → ℕ → Came → Type 0
IsCameCounted before after (Frame n) = after ≡ before
IsCameCounted before after (End status) = IsStatusCounted before after status

abbrev pub IsMagicCounted : ℕ → ℕ → Option Status → Type 0
IsMagicCounted before after None = after ≡ before
IsMagicCounted before after (Some status) = IsStatusCounted before after status

abbrev pub IsEnterCounted : ℕ → ℕ → Bool → Status → Type 0
IsEnterCounted before after true status = after ≡ before
IsEnterCounted before after false status = IsStatusCounted before after status
