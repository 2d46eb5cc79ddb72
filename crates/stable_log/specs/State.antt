-- What contracts see of a journal.
use Rattle.std.specs.Prelude.{ℕ, ◌≡◌, ◌+◌, List, Bool, false, length}

-- its disk, its payloads in order (each empty where the disk tells nothing), and whether it is stopped
pub record JournalState (D : Type 0) : Type 0 where
  pub disk : D
  pub payloads : List (List ℕ)
  pub stopped : Bool

-- the journal runs, with one payload more
pub record HasOneMore {D : Type 0} (old new : JournalState D) : Type 0 where
  pub running : new.stopped ≡ false
  pub counted : length new.payloads ≡ length old.payloads + 1
