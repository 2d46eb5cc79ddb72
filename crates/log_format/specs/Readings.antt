-- What a stream says, whole or in part: its frames, and how it ends. docs/FORMATS.md, 'Reading an export'.
use Rattle.std.specs.Prelude.{ℕ, ◌≡◌, ◌≢◌, ◌≤◌, ◌<◌, ◌+◌, ◌-◌, ◌++◌, ◌⊎◌, List, [], length, take, codes, Bool, true, false}
use Rattle.std.specs.List.{All, flat_map}
use Rattle.base_wire.specs.Pieces.{number_at}
use Rattle.base_wire.specs.Payloads.{IsPayload}
use Rattle.base_wire.specs.declared.limits.TheConstants.{LONGEST_PAYLOAD, MOST_ENTRIES}
use Rattle.log_format.specs.Exports.{frame_text}
use Rattle.log_format.specs.declared.status.Status.{Status}
use Rattle.log_format.specs.declared.status.Status.TheVariants.{Whole, Cut, Broken, TooLong, Failed}

-- the frames of a stream, and its status
pub record Reading : Type 0 where
  pub frames : List (List ℕ)
  pub status : Status

-- the words that are printed
abbrev pub status_name : Status → List ℕ
status_name Whole = codes "Whole"
status_name Cut = codes "Cut"
status_name Broken = codes "Broken"
status_name TooLong = codes "TooLong"
status_name Failed = codes "Failed"

-- how many frames a source may still send where so many are held
abbrev pub room_beside : ℕ → ℕ
room_beside held = MOST_ENTRIES - held

-- a stream that says too little to decide: a read of it failed, or it ended
abbrev pub unfinished : Bool → Status
unfinished true = Failed
unfinished false = Cut

-- the length of a frame has come
pub record HasLength (rest : List ℕ) : Type 0 where
  pub came : 4 ≤ length rest
  pub some : 0 < number_at 4 rest 0
  pub fits : number_at 4 rest 0 ≤ LONGEST_PAYLOAD

-- a length has come that no frame has
pub record HasGreatLength (rest : List ℕ) : Type 0 where
  pub came : 4 ≤ length rest
  pub great : LONGEST_PAYLOAD < number_at 4 rest 0

-- an end mark has come that names so many frames
pub record HasEndMark (rest : List ℕ) (count : ℕ) : Type 0 where
  pub came : 8 ≤ length rest
  pub none : number_at 4 rest 0 ≡ 0
  pub named : number_at 4 rest 4 ≡ count

-- an end mark has come that names another number of frames
pub record HasOtherEndMark (rest : List ℕ) (count : ℕ) : Type 0 where
  pub came : 8 ≤ length rest
  pub none : number_at 4 rest 0 ≡ 0
  pub other : number_at 4 rest 4 ≢ count

-- an end mark has come in part
pub record HasPartOfEndMark (rest : List ℕ) : Type 0 where
  pub none : number_at 4 rest 0 ≡ 0
  pub part : length rest < 8

-- a frame has come in part
pub record HasPartOfFrame (rest : List ℕ) : Type 0 where
  pub size : HasLength rest
  pub part : length rest < 4 + number_at 4 rest 0

-- too little has come to say how the stream goes on, where there is room for so many frames
abbrev pub IsOpen : ℕ → List ℕ → Type 0
IsOpen room rest = (length rest < 4) ⊎ HasPartOfEndMark rest ⊎ ((0 < room) × HasPartOfFrame rest)

-- behind so many frames of a stream, with room for so many more, this rest gives the status
abbrev pub Ends : Bool → ℕ → ℕ → List ℕ → Status → Type 0
Ends failed count room rest Whole = HasEndMark rest count
Ends failed count room rest Broken = HasGreatLength rest ⊎ HasOtherEndMark rest count
Ends failed count room rest TooLong = (room ≡ 0) × HasLength rest
Ends failed count room rest Cut = (unfinished failed ≡ Cut) × IsOpen room rest
Ends failed count room rest Failed = (unfinished failed ≡ Failed) × IsOpen room rest

-- fewer bytes came than the magic has
pub record IsBeforeMagic (stream : List ℕ) (failed : Bool) (frames : List (List ℕ)) (status : Status) : Type 0 where
  pub short : length stream < 4
  pub none : frames ≡ []
  pub named : status ≡ unfinished failed

-- the stream begins with other bytes
pub record HasOtherMagic (stream : List ℕ) (frames : List (List ℕ)) (status : Status) : Type 0 where
  pub came : 4 ≤ length stream
  pub other : take 4 stream ≢ codes "HSL1"
  pub none : frames ≡ []
  pub named : status ≡ Broken

-- the stream is the magic, these frames, and a rest that gives the status; with those held there is room for them
pub record HasFrames (held : ℕ) (stream : List ℕ) (failed : Bool) (frames : List (List ℕ)) (status : Status) : Type 0 where
  pub rest : List ℕ
  pub split : stream ≡ codes "HSL1" ++ (flat_map frame_text frames ++ rest)
  pub sizes : All IsPayload frames
  pub few : length frames ≤ room_beside held
  pub ends : Ends failed (length frames) (room_beside held - length frames) rest status

-- what a stream says to a reader that holds so many frames of the same source; `failed` says whether a read of
-- it, or the connect, failed
abbrev pub IsReading : ℕ → List ℕ → Bool → List (List ℕ) → Status → Type 0
IsReading held stream failed frames status =
    IsBeforeMagic stream failed frames status ⊎ HasOtherMagic stream frames status ⊎ HasFrames held stream failed frames status

-- behind so many frames of a stream, with room for so many more, the text is these frames, and a rest that gives the status
pub record IsBody (failed : Bool) (before room : ℕ) (text : List ℕ) (frames : List (List ℕ)) (status : Status) : Type 0 where
  pub rest : List ℕ
  pub split : text ≡ flat_map frame_text frames ++ rest
  pub sizes : All IsPayload frames
  pub few : length frames ≤ room
  pub ends : Ends failed (before + length frames) (room - length frames) rest status
