-- The logs that came of one source, told by the digests of their frames. docs/DEFINITIONS.md, "Watching".
use Rattle.std.specs.Prelude.{◌≡◌, ◌⊎◌, ◌++◌, ◌∷◌, ◌<◌, ◌≤◌, ◌-◌, ℕ, List, [], length, slice_index_or, slice_set, take, Option, Some}
use Rattle.std.specs.List.{All, Contains}
use Rattle.log_reading.specs.declared.following.FramePlace.{FramePlace}
use Rattle.log_reading.specs.declared.following.FramePlace.TheVariants.{Known, Next, Opens, Beyond}

-- a log by the digests of its frames begins with these
abbrev pub BeginsWith : List (List ℕ) → List (List ℕ) → Type 0
BeginsWith with log = (rest : List (List ℕ)) × (log ≡ with ++ rest)

-- the log that the source has now, as far as it was read, what was read before it was read anew, and all logs that came
pub record Followed : Type 0 where
  pub present : List (List ℕ)
  pub before : List (List ℕ)
  pub logs : List (List (List ℕ))

-- what was read, and the next frame
abbrev pub read_then : Followed → List ℕ → List (List ℕ)
read_then s d = s.present ++ d ∷ []

-- the frame was read, and these are the logs
pub record IsRead (old new : Followed) (d : List ℕ) (kept : List (List (List ℕ))) : Type 0 where
  pub present : new.present ≡ read_then old d
  pub before : new.before ≡ old.before
  pub logs : new.logs ≡ kept

-- some log begins with what was read and this frame
abbrev pub IsKnown : Followed → List ℕ → Type 0
IsKnown s d = (log : List (List ℕ)) × Contains s.logs log × BeginsWith (read_then s d) log

-- how many logs of a source are kept apart
abbrev pub most_logs : ℕ
most_logs = 4

-- no log ends where what was read does
abbrev pub NoneEndsThere : Followed → Type 0
NoneEndsThere s = All (λ log. log ≡ s.present → ⊥) s.logs

-- the first of the logs that is so
pub record IsFirst (Is : List (List ℕ) → Type 0) (logs : List (List (List ℕ))) (k : ℕ) : Type 0 where
  pub there : k < length logs
  pub is : Is (slice_index_or logs k [])
  pub before : All (λ log. Is log → ⊥) (take k logs)

-- known exactly where some log has the frame, and then of the first of these; else next of the first log that ends there; else,
-- where fewer than the most logs came, in a new one; else in none
abbrev pub IsPlaced : Followed → Followed → List ℕ → FramePlace → Type 0
IsPlaced old new d (Known k) = IsFirst (BeginsWith (read_then old d)) old.logs k × IsRead old new d old.logs
IsPlaced old new d (Next k) =
    (IsKnown old d → ⊥) × IsFirst (λ log. log ≡ old.present) old.logs k × IsRead old new d (slice_set old.logs k (read_then old d))
IsPlaced old new d (Opens k) =
    (IsKnown old d → ⊥) × NoneEndsThere old × (k < most_logs) × (k ≡ length old.logs) × IsRead old new d (old.logs ++ read_then old d ∷ [])
IsPlaced old new d Beyond = (IsKnown old d → ⊥) × NoneEndsThere old × (most_logs ≤ length old.logs) × (new ≡ old)

-- the first frame of an answer is the last that was read, or none was read
abbrev pub GoesOn : Followed → Option (List ℕ) → Type 0
GoesOn s first = (s.present ≡ []) ⊎ (first ≡ Some (slice_index_or s.present (length s.present - 1) []))
