-- What was written of a log while its frames came.
use Rattle.std.specs.Prelude.{◌≡◌, ◌+◌, ◌++◌, ℕ, List, [], length, Bool, false, true, Option, None, Some}
use Rattle.std.specs.List.{flat_map}
use Rattle.std.proofs.Common.{ap, refl, sym}
use Rattle.std.proofs.lemmas.List.{append-nil}
use native.Mathlib.Nat.{add-zero}
use Rattle.base_streams.specs.Streams.{Wrote, WrotePart}
use Rattle.log_format.specs.Exports.{end_mark, frame_text}
use Rattle.log_format.specs.declared.status.Status.{Status}
use Rattle.log_format.specs.declared.status.Status.TheVariants.{Whole, Cut, Broken, TooLong, Failed}

-- what its sink was given, where that tells, and how often a write failed; how many frames it wrote; and whether it gave up
pub record Writing : Type 0 where
  pub given : Option (List ℕ)
  pub failed : ℕ
  pub count : ℕ
  pub is_broken : Bool

-- behind the frames, where they end so
abbrev pub mark_of : ℕ → Option Status → List ℕ
mark_of count None = []
mark_of count (Some Whole) = end_mark count
mark_of count (Some Cut) = []
mark_of count (Some Broken) = []
mark_of count (Some TooLong) = []
mark_of count (Some Failed) = []

-- the frames behind so many, and how they end
abbrev pub text_behind : ℕ → List (List ℕ) → Option Status → List ℕ
text_behind count frames end = flat_map frame_text frames ++ mark_of (count + length frames) end

-- from s to t these frames were written, and no write failed
pub record IsAppended (s t : Writing) (frames : List (List ℕ)) (end : Option Status) : Type 0 where
  pub wrote : Wrote s.given t.given (text_behind s.count frames end)
  pub counted : t.count ≡ s.count + length frames
  pub no_failure : t.failed ≡ s.failed

-- .. all of them, or where it gave up, a first part
pub record IsWritten (s t : Writing) (frames : List (List ℕ)) (end : Option Status) : Type 0 where
  pub all : t.is_broken ≡ false → IsAppended s t frames end
  pub part : t.is_broken ≡ true → WrotePart s.given t.given (text_behind s.count frames end)

-- .. and at first none
pub nothing_given : (g : Option (List ℕ)) → Wrote g g []
nothing_given None = tt
nothing_given (Some text) = ap (λ (t : List ℕ). Some t) (sym (append-nil text))

pub no_part : (g : Option (List ℕ)) → WrotePart g g []
no_part None = tt
no_part (Some text) = (0, ap (λ (t : List ℕ). Some t) (sym (append-nil text)))

pub nothing_written : (s : Writing) → IsWritten s s [] None
nothing_written s = record {
  all = λ sound. record { wrote = nothing_given s.given; counted = sym (add-zero s.count); no_failure = refl };
  part = λ broken. no_part s.given;
}
