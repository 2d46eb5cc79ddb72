-- What a crash may leave of a disk: its images, now and since an earlier moment. docs/FORMATS.md, 'Disk'.
use Rattle.std.specs.Prelude.{ℕ, ◌≡◌, ◌≤◌, ◌+◌, ◌⊎◌, List, length, take, drop, max, Option}

-- n bytes were written at an offset, in part or not at all: within the old length the file is the same
-- outside the range, past it there may be any bytes
pub record Torn (at n : ℕ) (old new : List ℕ) : Type 0 where
  pub before : take at (take (length old) new) ≡ take at old
  pub after : drop (at + n) (take (length old) new) ≡ drop (at + n) old
  pub no_shorter : length old ≤ length new
  pub no_longer : length new ≤ max (length old) (at + n)

-- one of these images after a step
abbrev pub Stepped : (List ℕ → List ℕ → Type 0) → (List ℕ → Type 0) → List ℕ → Type 0
Stepped step images image = (before : List ℕ) × images before × step before image

-- each new image is an old one after a step
abbrev pub Follows : (List ℕ → List ℕ → Type 0) → (List ℕ → Type 0) → (List ℕ → Type 0) → Type 0
Follows step old new = (image : List ℕ) → new image → Stepped step old image

-- there is no new image
abbrev pub NoNew : (List ℕ → Type 0) → (List ℕ → Type 0) → Type 0
NoNew old new = (image : List ℕ) → new image → old image

-- a crash leaves these bytes and nothing else
abbrev pub Only : List ℕ → (List ℕ → Type 0) → Type 0
Only bytes images = (image : List ℕ) → images image → image ≡ bytes

-- time goes on: a crash since t might have left what it might have left before, or what it may leave now
pub record Elapses (before now : ℕ) (past since : ℕ → List ℕ → Type 0) (images : List ℕ → Type 0) : Type 0 where
  pub later : before ≤ now
  pub nothing_else : (t : ℕ) (image : List ℕ) → t ≤ before → since t image → past t image ⊎ images image
  pub keeps : (t : ℕ) (image : List ℕ) → t ≤ before → past t image → since t image

-- a crash at any moment from old to new leaves an image that has P
pub record LeavesOnly {D : Type 0} (moment : D → ℕ) (images_since : D → ℕ → List ℕ → Type 0) (old new : D) (P : List ℕ → Type 0) : Type 0 where
  pub later : moment old ≤ moment new
  pub each : (image : List ℕ) → images_since new (moment old) image → P image
  -- for a run that began earlier
  pub before : (t : ℕ) (image : List ℕ) → t ≤ moment old → images_since new t image → images_since old t image ⊎ P image

-- nothing was written: the bytes are the same, and at no moment may a crash leave an image that is not an old one
pub record Unwritten {D : Type 0} (bytes : D → Option (List ℕ)) (images : D → List ℕ → Type 0) (moment : D → ℕ) (images_since : D → ℕ → List ℕ → Type 0) (old new : D) : Type 0 where
  pub same : bytes new ≡ bytes old
  pub no_new : NoNew (images old) (images new)
  pub any_moment : LeavesOnly moment images_since old new (images old)
