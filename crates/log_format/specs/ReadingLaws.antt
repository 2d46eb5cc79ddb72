-- Laws on what streams say.
use Rattle.std.specs.Prelude.{ℕ, ◌≡◌, ◌≤◌, ◌<◌, ◌++◌, ◌⊎◌, List, [], length, take, Bool}
use Rattle.std.specs.List.{All}
use Rattle.base_wire.specs.Pieces.{AreBytes}
use Rattle.base_wire.specs.Payloads.{IsPayload}
use Rattle.log_format.specs.Exports.{asked_for, export_text}
use Rattle.log_format.specs.Readings.{Reading, IsReading, room_beside, unfinished}
use Rattle.log_format.specs.declared.status.Status.{Status}
use Rattle.log_format.specs.declared.status.Status.TheVariants.{Whole, TooLong}

-- a stream has one reading
abbrev pub AStreamHasOneReading : Type 0
AStreamHasOneReading =
    (held : ℕ) (stream : List ℕ) (failed : Bool) (frames others : List (List ℕ)) (status other : Status)
    → IsReading held stream failed frames status → IsReading held stream failed others other
    → (frames ≡ others) × (status ≡ other)

-- every stream of bytes has a reading
abbrev pub EveryStreamHasAReading : Type 0
EveryStreamHasAReading =
    (held : ℕ) (stream : List ℕ) (failed : Bool) → AreBytes stream
    → (r : Reading) × IsReading held stream failed r.frames r.status

-- an export of payloads reads back as the payloads that were asked for, and Whole, where there is room for them
abbrev pub AnExportReadsBack : Type 0
AnExportReadsBack =
    (held first most : ℕ) (payloads : List (List ℕ)) (failed : Bool)
    → All IsPayload payloads → length (asked_for payloads first most) ≤ room_beside held
    → IsReading held (export_text payloads first most) failed (asked_for payloads first most) Whole

-- where there is no room for all of them, it reads as those that there is room for, and TooLong
abbrev pub ALongExportIsTooLong : Type 0
ALongExportIsTooLong =
    (held first most : ℕ) (payloads : List (List ℕ)) (failed : Bool)
    → All IsPayload payloads → room_beside held < length (asked_for payloads first most)
    → IsReading held (export_text payloads first most) failed (take (room_beside held) (asked_for payloads first most)) TooLong

-- xs are the first of ys
abbrev pub AreFirstOf : List (List ℕ) → List (List ℕ) → Type 0
AreFirstOf xs ys = (more : List (List ℕ)) × (ys ≡ xs ++ more)

-- what came of an export that was cut anywhere reads as the first of its frames. It is Whole only where all of it
-- came, and else unfinished, so never Broken or TooLong
abbrev pub ACutExportHasTheFirstFrames : Type 0
ACutExportHasTheFirstFrames =
    (held first most : ℕ) (payloads : List (List ℕ)) (failed : Bool) (came lost : List ℕ) (frames : List (List ℕ)) (status : Status)
    → All IsPayload payloads → length (asked_for payloads first most) ≤ room_beside held
    → export_text payloads first most ≡ came ++ lost → IsReading held came failed frames status
    → AreFirstOf frames (asked_for payloads first most)
    × (((status ≡ Whole) × (frames ≡ asked_for payloads first most) × (lost ≡ [])) ⊎ (status ≡ unfinished failed))
