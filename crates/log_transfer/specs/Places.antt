-- Where a reader of a source stands, and what connections it makes.
use Rattle.std.specs.Prelude.{ℕ, ◌≡◌, ◌<◌, ◌≤◌, ◌+◌, ◌*◌, ◌-◌, ◌^◌, ◌++◌, min, List, [], ◌∷◌, length, Bool, true, false, cond}
use Rattle.std.specs.Bool.{MatchBool}
use Rattle.base_wire.specs.declared.limits.TheConstants.{MOST_ENTRIES}
use Rattle.base_streams.specs.Counting.{HasFailed}
use Rattle.log_format.specs.Readings.{IsBody, IsReading, room_beside}
use Rattle.log_format.specs.declared.status.Status.{Status}
use Rattle.log_format.specs.declared.status.Status.TheVariants.{Whole, Cut, Broken, TooLong, Failed}
use Rattle.log_transfer.specs.Bytes.{most_of_frames}
use Rattle.log_transfer.specs.Connections.{Connection}
use Rattle.log_transfer.specs.declared.budget.TheConstants.{MOST_OF_A_STREAM}
use Rattle.log_transfer.specs.declared.reader_state.ReaderState.{ReaderState}
use Rattle.log_transfer.specs.declared.reader_state.TheConstants.{MOST_TRIES}

-- ---- connections that were made

-- a connection, and what it says to a reader behind the frames that it held before
pub record Visit : Type 0 where
  pub connection : Connection
  pub frames : List (List ℕ)
  pub status : Status

-- how many frames are asked for where so many are held: one more than there is room for, so that a longer log shows
abbrev pub asked_beside : ℕ → ℕ
asked_beside held = MOST_ENTRIES + 1 - held

-- a source is asked again behind such a status
abbrev pub may_go_on : Status → Bool
may_go_on Whole = false
may_go_on Cut = true
may_go_on Broken = false
may_go_on TooLong = false
may_go_on Failed = true

-- the source may give this, asked for the frames behind those held, and it says this
pub record IsVisit (gives : ℕ → ℕ → ℕ → Connection → Type 0) (k held : ℕ) (v : Visit) : Type 0 where
  pub gave : gives k held (asked_beside held) v.connection
  pub reading : IsReading held v.connection.text v.connection.fails v.frames v.status

-- connections from the k-th on, where so many frames are held and so many tries are left; each but the last ended so
-- that the source is asked again, and the last did not or used the last try
abbrev pub AreVisits : (ℕ → ℕ → ℕ → Connection → Type 0) → ℕ → ℕ → ℕ → Status → List Visit → Type 0
AreVisits gives k held tries status [] = may_go_on status ≡ true → tries ≡ 0
AreVisits gives k held tries status (v ∷ vs) =
    (may_go_on status ≡ true) × (0 < tries) × IsVisit gives k held v × AreVisits gives (k + 1) (held + length v.frames) (tries - 1) v.status vs

-- all their frames, and the last status
abbrev pub frames_of_visits : List Visit → List (List ℕ)
frames_of_visits [] = []
frames_of_visits (v ∷ vs) = v.frames ++ frames_of_visits vs

abbrev pub last_status : Status → List Visit → Status
last_status status [] = status
last_status status (v ∷ vs) = last_status v.status vs

-- what connections may give from the k-th on
pub record IsOutcome (gives : ℕ → ℕ → ℕ → Connection → Type 0) (k held tries : ℕ) (last : Status) (frames : List (List ℕ)) (status : Status) : Type 0 where
  pub visits : List Visit
  pub run : AreVisits gives k held tries last visits
  pub frames_are : frames ≡ frames_of_visits visits
  pub status_is : status ≡ last_status last visits

-- what a source may give in so many tries
abbrev pub IsFetched : (ℕ → ℕ → ℕ → Connection → Type 0) → ℕ → List (List ℕ) → Status → Type 0
IsFetched gives tries frames status = IsOutcome gives 0 0 tries Failed frames status

-- a reader may make so many connections
pub record MayTry (allowed tries : ℕ) : Type 0 where
  pub some : 1 ≤ tries
  pub few : tries ≤ MOST_TRIES
  pub within : tries ≤ allowed

-- a source that is Failed failed in between: its failures were so many before, and are so many now
abbrev pub HasCause : ℕ → ℕ → Status → Type 0
HasCause before now status = status ≡ Failed → HasFailed before now

-- ---- in the middle of a connection

-- the rest of the open connection, behind `count` of its frames
pub record IsRest (left : Connection → Type 0) (count room : ℕ) (v : Visit) : Type 0 where
  pub may : left v.connection
  pub body : IsBody v.connection.fails count room v.connection.text v.frames v.status

-- what may come from here on: of the open connection and those behind it, or of those alone
abbrev pub IsAhead : (ℕ → ℕ → ℕ → Connection → Type 0) → (Connection → Type 0) → ReaderState → List (List ℕ) → Status → Type 0
IsAhead gives left p frames status =
    MatchBool p.is_open
    ((v : Visit) × IsRest left p.count (room_beside p.held) v × ((more : List (List ℕ)) × (frames ≡ v.frames ++ more) × IsOutcome gives 0 (p.held + length v.frames) p.tries v.status more status))
    (IsOutcome gives 0 p.held p.tries p.last frames status)

-- whatever may come behind the new place comes, behind these frames, behind the old one
abbrev pub Leads : (old new : ℕ → ℕ → ℕ → Connection → Type 0) (old_left new_left : Connection → Type 0) (p q : ReaderState) → List (List ℕ) → Type 0
Leads old new old_left new_left p q front = (frames : List (List ℕ)) (status : Status) → IsAhead new new_left q frames status → IsAhead old old_left p (front ++ frames) status

-- no more is to come
pub record IsEnd (p : ReaderState) : Type 0 where
  pub closed : p.is_open ≡ false
  pub last : may_go_on p.last ≡ true → p.tries ≡ 0

-- no more frames than a source may have, and where so many bytes of the last connection were read, no more than its frames
-- have, or at the end than a stream has
pub record IsPlace (taken : ℕ) (p : ReaderState) : Type 0 where
  pub few : p.held ≤ MOST_ENTRIES
  pub counted : p.count ≤ p.held
  pub frames : p.is_open ≡ true → taken ≤ most_of_frames p.count
  pub stream : IsEnd p → taken ≤ MOST_OF_A_STREAM

-- the count of failures does not fall, up to its last value; where the last try ended as Failed, one was counted
pub record IsCaused (before now : ℕ) (p : ReaderState) : Type 0 where
  pub risen : min before (2 ^ 64 - 1) ≤ now
  pub cause : p.is_open ≡ false → p.tries ≡ 0 → HasCause before now p.last

-- how much there is still to do
abbrev pub work : ReaderState → ℕ
work p = 2 * p.tries + cond p.is_open 1 0
