-- A log that is handed out in pieces, while it grows. docs/FORMATS.md, 'Export'.
use Rattle.std.specs.Prelude.{◌≡◌, ◌⊎◌, ◌≤◌, ◌<◌, ◌+◌, ◌-◌, ◌^◌, ℕ, List, Option, Some, None, IfSome, codes, length, min}
use Rattle.std.specs.List.{flat_map}
use Rattle.log_format.specs.EntryText.{Entry}
use Rattle.log_format.specs.Exports.{asked_for, end_mark, frame_text}
use Rattle.log_format.specs.declared.request.FrameRequest.{FrameRequest}
use Rattle.vote_log.specs.Logs.{texts_of}
use Rattle.vote_log.specs.LogExport.{frame_count}
use Rattle.stable_log.specs.declared.disk.Disk.{Ghosts}
use Rattle.vote_log.specs.declared.export_error.ExportError.{ExportError}
use Rattle.vote_log.specs.declared.export_error.ExportError.TheVariants.{Memory, Sink}
use Rattle.vote_desk.specs.Desks.{DeskView}
use Rattle.vote_desk.specs.Exports.{RefusesExport}
use Rattle.vote_desk.specs.SomeDesk.{SomeDeskMoves}
use Rattle.log_handout.specs.declared.stage.Stage.{Stage}
use Rattle.log_handout.specs.declared.stage.Stage.TheVariants.{Front, Frames, Over}

-- the entries from the first on, at most so many; how many of them went out; and what comes next
pub record Handed : Type 0 where
  pub first : ℕ
  pub most : ℕ
  pub sent : ℕ
  pub stage : Stage

-- what a request is handed out of a list of so many entries: those that there are, and none that is added later
abbrev pub begun : FrameRequest → ℕ → Handed
begun r count = record { first = r.first; most = min r.most (min count (2 ^ 32 - 1) - r.first); sent = 0; stage = Front }

-- the number of the next entry
abbrev pub next_entry : Handed → ℕ
next_entry h = h.first + h.sent

-- how many entries the next piece has at most: of what is left so many, and no more than 64
abbrev pub wanted : Handed → ℕ → ℕ
wanted h share = min (min share (h.most - h.sent)) 64

-- the frames of so many entries of a list from one on
abbrev pub frames_of : List Entry → ℕ → ℕ → List ℕ
frames_of entries first count = flat_map frame_text (asked_for (texts_of entries) first count)

-- so many frames, of the list that a desk has, from an entry on and of so many at most; where its disk tells its bytes these are
-- they
pub record AreFrames {D : Type 0} (bytes : D → Option (List ℕ)) (first most : ℕ) (piece : List ℕ) (count : ℕ) (d : DeskView D) : Type 0 where
  pub as_many : count ≡ frame_count (length d.log.steps) first most
  pub told : IfSome (bytes d.log.disk) (λ _. piece ≡ frames_of d.log.entries first most)

-- all that were to go out have gone, or the desk's list has no more
abbrev pub HasAll : {D : Type 0} → ((DeskView D → Type 0) → Type 0) → Handed → Type 0
HasAll SomeOne h = (h.most ≤ h.sent) ⊎ SomeOne (λ d. length d.log.steps ≤ next_entry h)

-- frames are not made: for want of memory, or since some desk refuses to export so many entries from one on
abbrev pub IsUnmade : {D : Type 0} → Ghosts D → (DeskView D → Type 0) → (first most : ℕ) → ExportError → Type 0
IsUnmade disk IsDesk first most Memory = Unit {0}
IsUnmade disk IsDesk first most Sink = Unit {0}
IsUnmade disk IsDesk first most e = SomeDeskMoves IsDesk (RefusesExport disk first most e)

module _ {D : Type 0} (SomeOne : (DeskView D → Type 0) → Type 0) (bytes : D → Option (List ℕ)) (share : ℕ) where
  -- the frames of the next entries of a list that the desk had, of one at least
  pub record IsMore (h h' : Handed) (piece : List ℕ) : Type 0 where
    pub count : ℕ
    pub some : 0 < count
    pub frames : SomeOne (AreFrames bytes (next_entry h) (wanted h share) piece count)
    pub moved : h' ≡ record h { sent = h.sent + count }

  -- then the end, which says how many went out
  pub record IsLast (h h' : Handed) (piece : List ℕ) : Type 0 where
    pub all : HasAll SomeOne h
    pub end : piece ≡ end_mark h.sent
    pub over : h' ≡ record h { stage = Over }

  abbrev pub IsPieceAt : Stage → Handed → Handed → Option (List ℕ) → Type 0
  IsPieceAt Front h h' piece = (piece ≡ Some (codes "HSL1")) × (h' ≡ record h { stage = Frames })
  IsPieceAt Frames h h' (Some piece) = IsMore h h' piece ⊎ IsLast h h' piece
  IsPieceAt Frames h h' None = ⊥
  IsPieceAt Over h h' piece = (piece ≡ None) × (h' ≡ h)

  -- what goes out next: the export's front, then frames, then its end, then nothing
  abbrev pub IsPiece : Handed → Handed → Option (List ℕ) → Type 0
  IsPiece h h' piece = IsPieceAt h.stage h h' piece
