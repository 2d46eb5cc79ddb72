-- What happened to a disk between two moments, in the words of the disk itself.
use Rattle.std.specs.Prelude.{ℕ, List}
use Rattle.stable_log.specs.Crash.{LeavesOnly, Unwritten}
use Rattle.stable_log.specs.declared.disk.Disk.{Ghosts}

-- nothing was written from old to new
abbrev pub Untouched : {D : Type 0} → Ghosts D → (old new : D) → Type 0
Untouched disk old new = Unwritten disk.bytes disk.images disk.moment disk.images_since old new

-- a crash at any moment from old to new leaves an image that has P
abbrev pub AtAnyMoment : {D : Type 0} → Ghosts D → (old new : D) → (List ℕ → Type 0) → Type 0
AtAnyMoment disk old new P = LeavesOnly disk.moment disk.images_since old new P
