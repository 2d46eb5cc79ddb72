-- Sources that keep nothing back.
use Rattle.std.specs.Prelude.{ℕ, ◌≡◌, ◌≢◌, ◌≤◌, ◌+◌, ◌++◌, ◌⊎◌, List, [], ◌∷◌, length, true, false, None}
use Rattle.std.specs.List.{All}
use Rattle.base_wire.specs.Payloads.{IsPayload}
use Rattle.log_format.specs.Exports.{export_text}
use Rattle.log_format.specs.ReadingLaws.{AreFirstOf}
use Rattle.log_format.specs.declared.status.Status.{Status}
use Rattle.log_format.specs.declared.status.Status.TheVariants.{Whole, Failed}
use Rattle.base_wire.specs.declared.limits.TheConstants.{MOST_ENTRIES}
use Rattle.log_transfer.specs.Connections.{Connection}
use Rattle.log_transfer.specs.Scripts.{GivesOf, stream_at}
use Rattle.log_transfer.specs.Places.{Visit, AreVisits, IsFetched, asked_beside}

-- what came of the export behind those held; it ends early only where something failed
pub record IsPartOf (log : List (List ℕ)) (held : ℕ) (c : Connection) : Type 0 where
  pub lost : List ℕ
  pub part : export_text log held (asked_beside held) ≡ c.text ++ lost
  pub early : lost ≢ [] → c.fails ≡ true

-- each connection gives a part of what it was asked for
abbrev pub ArePartsOf : List (List ℕ) → ℕ → List Visit → Type 0
ArePartsOf log held [] = Unit {0}
ArePartsOf log held (v ∷ vs) = IsPartOf log held v.connection × ArePartsOf log (held + length v.frames) vs

-- so does each that is made in so many tries, whatever the source gives
abbrev pub IsCompleteFor : (ℕ → ℕ → ℕ → Connection → Type 0) → ℕ → List (List ℕ) → Type 0
IsCompleteFor gives tries log = (visits : List Visit) → AreVisits gives 0 0 tries Failed visits → ArePartsOf log 0 visits

-- a log
pub record AreLogPayloads (log : List (List ℕ)) : Type 0 where
  pub sizes : All IsPayload log
  pub few : length log ≤ MOST_ENTRIES

-- of such a source the first of the log come, and all of it where it is Whole; else it is Failed
abbrev pub GivesItsLog : (ℕ → ℕ → ℕ → Connection → Type 0) → Type 0
GivesItsLog gives =
    (tries : ℕ) (log frames : List (List ℕ)) (status : Status)
    → AreLogPayloads log → IsCompleteFor gives tries log → IsFetched gives tries frames status
    → AreFirstOf frames log × (((status ≡ Whole) × (frames ≡ log)) ⊎ (status ≡ Failed))

-- the whole export of a log
abbrev pub whole_export : List (List ℕ) → Connection
whole_export log = record { text = export_text log 0 (asked_beside 0); fails = false }

-- a source in memory with no fuse, whose first connection gives the whole export, keeps nothing back
abbrev pub AWholeExportIsComplete : Type 0
AWholeExportIsComplete =
    (tries : ℕ) (log : List (List ℕ)) (later : List Connection)
    → AreLogPayloads log → IsCompleteFor (λ k first most c. GivesOf None (stream_at (whole_export log ∷ later) k) c) tries log
