-- What was made of a stream that came in pieces.
use Rattle.std.specs.Prelude.{ℕ, ◌≡◌, ◌≢◌, ◌<◌, ◌≤◌, ◌-◌, ◌++◌, List, [], length, take, codes, Bool, false, Option, Some, None, MatchOption}
use Rattle.std.specs.Bool.{MatchBool}
use Rattle.std.specs.List.{All, flat_map}
use Rattle.base_wire.specs.Payloads.{IsPayload}
use Rattle.log_format.specs.Exports.{frame_text}
use Rattle.log_format.specs.Fronts.{IsFrame}
use Rattle.log_format.specs.Readings.{Ends, IsOpen, IsReading, room_beside}
use Rattle.log_format.specs.declared.status.Status.{Status}
use Rattle.log_format.specs.declared.status.Status.TheVariants.{Cut}
use Rattle.log_transfer.specs.declared.front.Front.{Front}
use Rattle.log_transfer.specs.declared.reading_on.Start.{Start}
use Rattle.log_transfer.specs.declared.reading_on.Start.TheVariants.{Wait, Bad, From}
use Rattle.log_transfer.specs.declared.front.Front.TheVariants.{Frame, End, Open}

-- how many frames were held before, whether the magic came, the frames, what came behind them and is not
-- taken yet, and the status once nothing can change it
pub record Pulled : Type 0 where
  pub held : ℕ
  pub begun : Bool
  pub frames : List (List ℕ)
  pub rest : List ℕ
  pub ended : Option Status

-- the stream is the magic, these frames, and this rest
pub record IsSoFar (held : ℕ) (stream : List ℕ) (frames : List (List ℕ)) (rest : List ℕ) : Type 0 where
  pub split : stream ≡ codes "HSL1" ++ (flat_map frame_text frames ++ rest)
  pub sizes : All IsPayload frames
  pub few : length frames ≤ room_beside held

abbrev pub room_of : ℕ → List (List ℕ) → ℕ
room_of held frames = room_beside held - length frames

-- this rest decides, whatever comes behind it
abbrev pub Decides : ℕ → ℕ → List ℕ → Status → Type 0
Decides count room rest status = (failed : Bool) (more : List ℕ) → Ends failed count room (rest ++ more) status

-- nothing is decided yet
abbrev pub IsUndecided : ℕ → List ℕ → Bool → List (List ℕ) → List ℕ → Type 0
IsUndecided held stream begun frames rest =
    MatchBool begun
    (IsSoFar held stream frames rest × IsOpen (room_of held frames) rest)
    ((frames ≡ []) × (stream ≡ rest) × (length rest < 4))

-- these frames and this status are the reading, whatever comes behind it
abbrev pub IsDecided : ℕ → List ℕ → List (List ℕ) → Status → Type 0
IsDecided held stream frames status = (failed : Bool) (more : List ℕ) → IsReading held (stream ++ more) failed frames status

-- this was made of the stream
abbrev pub IsPulledOf : List ℕ → Pulled → Type 0
IsPulledOf stream p = MatchOption p.ended (IsUndecided p.held stream p.begun p.frames p.rest) (IsDecided p.held stream p.frames)

abbrev pub status_of : Option Status → Status
status_of None = Cut
status_of (Some status) = status

-- what stands at the front of a rest
abbrev pub IsAtFront : ℕ → ℕ → List ℕ → Front → Type 0
IsAtFront count room rest (Frame payload behind) = (0 < room) × IsFrame rest payload.now behind.now
IsAtFront count room rest (End status) = Decides count room rest status
IsAtFront count room rest Open = IsOpen room rest

-- frames that were taken of a text, and how its rest goes on
pub record IsTaken (held : ℕ) (text : List ℕ) (old new : List (List ℕ)) (rest : List ℕ) (ended : Option Status) : Type 0 where
  pub so_far : (stream : List ℕ) → IsSoFar held stream old text → IsSoFar held stream new rest
  pub goes_on : MatchOption ended (IsOpen (room_of held new) rest) (Decides (length new) (room_of held new) rest)

-- more came behind what was not decided
abbrev pub IsArrived : ℕ → List ℕ → Bool → List (List ℕ) → List ℕ → Type 0
IsArrived held stream begun frames text = MatchBool begun (IsSoFar held stream frames text) ((frames ≡ []) × (stream ≡ text))

abbrev pub IsStart : Bool → List ℕ → Start → Type 0
IsStart begun text Wait = (begun ≡ false) × (length text < 4)
IsStart begun text Bad = (begun ≡ false) × (4 ≤ length text) × (take 4 text ≢ codes "HSL1")
IsStart begun text (From n) = (n ≤ length text) × MatchBool begun (n ≡ 0) ((n ≡ 4) × (take 4 text ≡ codes "HSL1"))

abbrev pub IsPulled : ℕ → List ℕ → Bool → List (List ℕ) → List ℕ → Option Status → Type 0
IsPulled held stream begun frames rest ended = MatchOption ended (IsUndecided held stream begun frames rest) (IsDecided held stream frames)
