-- What stands at the front of the rest of a stream.
use Rattle.std.specs.Prelude.{ℕ, ◌≡◌, ◌≤◌, ◌<◌, ◌-◌, ◌++◌, List, length, Bool}
use Rattle.std.specs.List.{All, flat_map}
use Rattle.base_wire.specs.Payloads.{IsPayload}
use Rattle.log_format.specs.Exports.{frame_text}
use Rattle.log_format.specs.Readings.{Ends}
use Rattle.log_format.specs.declared.status.Status.{Status}
use Rattle.log_format.specs.declared.frames.StreamFront.{StreamFront}
use Rattle.log_format.specs.declared.frames.StreamFront.TheVariants.{Frame, End}

-- the rest begins with a whole frame, and this stands behind it
pub record IsFrame (rest payload behind : List ℕ) : Type 0 where
  pub split : rest ≡ frame_text payload ++ behind
  pub size : IsPayload payload

-- behind so many frames of a stream, with room for so many more: one more, or how it ends
abbrev pub IsFront : Bool → ℕ → ℕ → List ℕ → StreamFront → Type 0
IsFront failed count room rest (Frame payload behind) = (0 < room) × IsFrame rest payload.now behind.now
IsFront failed count room rest (End status) = Ends failed count room rest status

-- the frames behind the magic, and the status, where there is room for so many
pub record AreFramesOf (failed : Bool) (room : ℕ) (text : List ℕ) (frames : List (List ℕ)) (status : Status) : Type 0 where
  pub rest : List ℕ
  pub split : text ≡ flat_map frame_text frames ++ rest
  pub sizes : All IsPayload frames
  pub few : length frames ≤ room
  pub ends : Ends failed (length frames) (room - length frames) rest status
