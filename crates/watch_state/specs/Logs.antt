-- The logs of a source, told by the digests of their frames, as their parts are read again.
use Rattle.std.specs.Prelude.{◌≡◌, ◌⊎◌, ◌<◌, ◌≤◌, ℕ, List, [], length, take, drop, slice_index_or}
use Rattle.log_reading.specs.Following.{BeginsWith}
use Rattle.watch_state.specs.Digests.{log_digest}
use Rattle.watch_state.specs.declared.name.PartName.{PartName}

-- these are the frames that stand in front of the part
pub record StandsBehind (p : PartName) (front : List (List ℕ)) : Type 0 where
  pub place : length front ≡ p.place
  pub digest : log_digest front ≡ p.front

-- the part stands behind the beginning of this log
abbrev pub HasFront : PartName → List (List ℕ) → Type 0
HasFront p log = (p.place ≤ length log) × StandsBehind p (take p.place log)

-- the part goes on where its log ends
pub record GoesOn (logs : List (List (List ℕ))) (p : PartName) (front : List (List ℕ)) : Type 0 where
  pub log : p.log < length logs
  pub whole : front ≡ slice_index_or logs p.log []
  pub behind : StandsBehind p front

-- the part opens the next log, which begins as this one
pub record BeginsAs (logs : List (List (List ℕ))) (p : PartName) (front : List (List ℕ)) (j : ℕ) : Type 0 where
  pub log : j < length logs
  pub long : p.place ≤ length (slice_index_or logs j [])
  pub beginning : front ≡ take p.place (slice_index_or logs j [])
  pub behind : StandsBehind p front

-- the part opens the next log, behind no frame or behind the beginning of another log
pub record Opens (logs : List (List (List ℕ))) (p : PartName) (front : List (List ℕ)) : Type 0 where
  pub log : p.log ≡ length logs
  pub from : (front ≡ []) ⊎ ((j : ℕ) × BeginsAs logs p front j)
  pub behind : StandsBehind p front

-- the part stands behind these frames
abbrev pub IsFront : List (List (List ℕ)) → PartName → List (List ℕ) → Type 0
IsFront logs p front = GoesOn logs p front ⊎ Opens logs p front

-- the log has these frames behind those in front of the part
abbrev pub HasPart : PartName → List (List ℕ) → List (List ℕ) → Type 0
HasPart p frames log = HasFront p log × BeginsWith frames (drop p.place log)

-- the log of the part is there, and has all of its frames
pub record IsJoined (logs : List (List (List ℕ))) (p : PartName) (frames : List (List ℕ)) : Type 0 where
  pub log : p.log < length logs
  pub part : HasPart p frames (slice_index_or logs p.log [])
