-- What a pull gives.
use Rattle.std.specs.Prelude.{ℕ, ◌≡◌, List, [], false}
use Rattle.log_format.specs.declared.status.Status.TheVariants.{Failed}
use Rattle.log_transfer.specs.Places.{IsEnd}
use Rattle.log_transfer.specs.Turns.{NoMore, OneMore}
use Rattle.log_transfer.specs.declared.connector.Connector.{Ghosts}
use Rattle.log_transfer.specs.declared.reader_state.ReaderState.{ReaderState}
use Rattle.log_transfer.specs.declared.pull.Step.{Step}
use Rattle.log_transfer.specs.declared.pull.Step.TheVariants.{Frame, End}

-- a source that is read, and where its reader stands
pub record Pulling (C : Type 0) : Type 0 where
  pub connector : C
  pub place : ReaderState

-- before the first connection
abbrev pub first_place : ℕ → ReaderState
first_place tries = record { held = 0; tries = tries; is_open = false; count = 0; last = Failed }

-- the same, where so many frames are held already
abbrev pub place_behind : ℕ → ℕ → ReaderState
place_behind held tries = record { held = held; tries = tries; is_open = false; count = 0; last = Failed }

-- a frame, or the end
abbrev pub IsStep : {C : Type 0} → Ghosts C → (old new : Pulling C) → List ℕ → Step → Type 0
IsStep source old new out Frame = OneMore (source.gives old.connector) (source.gives new.connector) (source.left old.connector) (source.left new.connector) old.place new.place out
IsStep source old new out (End status) = IsEnd new.place × (status ≡ new.place.last) × (out ≡ []) × NoMore (source.gives old.connector) (source.gives new.connector) (source.left old.connector) (source.left new.connector) old.place new.place
