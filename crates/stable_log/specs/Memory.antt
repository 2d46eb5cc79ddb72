-- What a disk in memory is after its calls, and what a crash may leave of it.
use Rattle.std.specs.Prelude.{ℕ, ◌≡◌, ◌≤◌, List, [], ◌∷◌, length, take}
use Rattle.stable_log.specs.Disk.{written}
use Rattle.stable_log.specs.Crash.{Torn}
use Rattle.stable_log.specs.declared.memory_disk.Call.{Call}
use Rattle.stable_log.specs.declared.memory_disk.Call.TheVariants.{Write, Sync}

-- the bytes, those of the last sync, and the ranges written since (offset and length, the last one first)
pub record DiskState : Type 0 where
  pub bytes : List ℕ
  pub synced : List ℕ
  pub ranges : List (ℕ × ℕ)

-- a disk of these bytes, all synced
abbrev pub fresh : List ℕ → DiskState
fresh bytes = record { bytes = bytes; synced = bytes; ranges = [] }

-- after one call
abbrev pub step : DiskState → Call → DiskState
step s (Write at piece) = record { bytes = written s.bytes at piece.items; synced = s.synced; ranges = (at, length piece.items) ∷ s.ranges }
step s Sync = fresh s.bytes

-- after these calls, the first of them first
abbrev pub after_calls : DiskState → List Call → DiskState
after_calls s [] = s
after_calls s (call ∷ calls) = after_calls (step s call) calls

abbrev pub disk_state : List ℕ → List Call → DiskState
disk_state first calls = after_calls (fresh first) calls

-- the synced bytes after each range was torn
abbrev pub IsTorn : List ℕ → List (ℕ × ℕ) → List ℕ → Type 0
IsTorn synced [] image = image ≡ synced
IsTorn synced (range ∷ ranges) image = (before : List ℕ) × IsTorn synced ranges before × Torn range.0 range.1 before image

-- a crash in this state may leave this
abbrev pub IsImageOf : DiskState → List ℕ → Type 0
IsImageOf s image = IsTorn s.synced s.ranges image

-- .. or in some state from the call t on
abbrev pub WasImage : List ℕ → List Call → ℕ → List ℕ → Type 0
WasImage first calls t image = (k : ℕ) × (t ≤ k) × (k ≤ length calls) × IsImageOf (disk_state first (take k calls)) image
