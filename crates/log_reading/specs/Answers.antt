-- What came of one connection to a source. docs/DEFINITIONS.md, "Watching".
use Rattle.std.specs.Prelude.{◌≡◌, ◌++◌, ◌<◌, ℕ, List, length, Option, None, Some, false, true}
use Rattle.log_transfer.specs.Connections.{Connection, behind, ended, failing}
use Rattle.log_reading.specs.declared.answer.End.{End}
use Rattle.log_reading.specs.declared.answer.End.TheVariants.{Ended, Failing, Stopped}

-- the connection ended behind this text, failed behind it, or was left there
abbrev pub EndsAs : Connection → List ℕ → End → Type 0
EndsAs c text Ended = (c.text ≡ text) × (c.fails ≡ false)
EndsAs c text Failing = (c.text ≡ text) × (c.fails ≡ true)
EndsAs c text Stopped = (rest : List ℕ) × (c.text ≡ text ++ rest)

-- this text came of a connection that may have been given
pub record IsAnswer (gives : Connection → Type 0) (text : List ℕ) (end : End) : Type 0 where
  pub connection : Connection
  pub given : gives connection
  pub ends : EndsAs connection text end

-- a piece more came, or the connection ended, or failed
abbrev pub IsPiece : (old_left new_left : Connection → Type 0) → (old new : List ℕ) → Option End → Type 0
IsPiece old_left new_left old new None =
    (piece : List ℕ) × (0 < length piece) × (new ≡ old ++ piece) × ((c : Connection) → new_left c → old_left (behind piece c))
IsPiece old_left new_left old new (Some Ended) = (new ≡ old) × old_left ended
IsPiece old_left new_left old new (Some Failing) = (new ≡ old) × old_left failing
IsPiece old_left new_left old new (Some Stopped) = ⊥
