-- How a stream ends: a rest gives one status, and none where a whole frame stands there that there is room for.
use Rattle.std.proofs.Common.{◌≡◌, ◌⊎◌, inl, inr, ℕ, ◌+◌, ◌<◌, ◌≤◌, List, ◌++◌, Bool, true, false, length, refl, sym, ◌∙◌, arith}
use Rattle.base_wire.specs.Pieces.{number_at}
use Rattle.base_wire.specs.Payloads.{IsPayload}
use Rattle.log_format.specs.Exports.{frame_text}
use Rattle.log_format.specs.Readings.{unfinished, HasLength, HasGreatLength, HasEndMark, HasOtherEndMark, IsOpen, Ends}
use Rattle.log_format.specs.declared.status.Status.{Status}
use Rattle.log_format.specs.declared.status.Status.TheVariants.{Whole, Cut, Broken, TooLong, Failed}
use Rattle.log_format.proofs.Texts.{frame_has_length, frame_fits}

-- ---- no two of these hold of one rest

whole_broken : (rest : List ℕ) (n : ℕ) → HasEndMark rest n → HasGreatLength rest ⊎ HasOtherEndMark rest n → ⊥
whole_broken rest n whole (inl great) = omega arith
whole_broken rest n whole (inr other) = other.other whole.named

whole_long : (rest : List ℕ) (n : ℕ) → HasEndMark rest n → HasLength rest → ⊥
whole_long rest n whole size = omega arith

whole_open : (rest : List ℕ) (n room : ℕ) → HasEndMark rest n → IsOpen room rest → ⊥
whole_open rest n room whole (inl short) = omega arith
whole_open rest n room whole (inr (inl mark)) = omega arith
whole_open rest n room whole (inr (inr (some, frame))) = let size = frame.size in omega arith

broken_long : (rest : List ℕ) (n : ℕ) → HasGreatLength rest ⊎ HasOtherEndMark rest n → HasLength rest → ⊥
broken_long rest n (inl great) size = omega arith
broken_long rest n (inr other) size = omega arith

broken_open : (rest : List ℕ) (n room : ℕ) → HasGreatLength rest ⊎ HasOtherEndMark rest n → IsOpen room rest → ⊥
broken_open rest n room (inl great) (inl short) = omega arith
broken_open rest n room (inl great) (inr (inl mark)) = omega arith
broken_open rest n room (inl great) (inr (inr (some, frame))) = let size = frame.size in omega arith
broken_open rest n room (inr other) (inl short) = omega arith
broken_open rest n room (inr other) (inr (inl mark)) = omega arith
broken_open rest n room (inr other) (inr (inr (some, frame))) = let size = frame.size in omega arith

long_open : (rest : List ℕ) (room : ℕ) → room ≡ 0 → HasLength rest → IsOpen room rest → ⊥
long_open rest room none size (inl short) = omega arith
long_open rest room none size (inr (inl mark)) = omega arith
long_open rest room none size (inr (inr (some, frame))) = omega arith

-- a rest gives one status
pub one_ending : (failed : Bool) (n room : ℕ) (rest : List ℕ) (s t : Status) → Ends failed n room rest s → Ends failed n room rest t → s ≡ t
one_ending failed n room rest Whole Whole a b = refl
one_ending failed n room rest Whole Cut a b = absurd (whole_open rest n room a b.1)
one_ending failed n room rest Whole Broken a b = absurd (whole_broken rest n a b)
one_ending failed n room rest Whole TooLong a b = absurd (whole_long rest n a b.1)
one_ending failed n room rest Whole Failed a b = absurd (whole_open rest n room a b.1)
one_ending failed n room rest Cut Whole a b = absurd (whole_open rest n room b a.1)
one_ending failed n room rest Cut Cut a b = refl
one_ending failed n room rest Cut Broken a b = absurd (broken_open rest n room b a.1)
one_ending failed n room rest Cut TooLong a b = absurd (long_open rest room b.0 b.1 a.1)
one_ending failed n room rest Cut Failed a b = sym a.0 ∙ b.0
one_ending failed n room rest Broken Whole a b = absurd (whole_broken rest n b a)
one_ending failed n room rest Broken Cut a b = absurd (broken_open rest n room a b.1)
one_ending failed n room rest Broken Broken a b = refl
one_ending failed n room rest Broken TooLong a b = absurd (broken_long rest n a b.1)
one_ending failed n room rest Broken Failed a b = absurd (broken_open rest n room a b.1)
one_ending failed n room rest TooLong Whole a b = absurd (whole_long rest n b a.1)
one_ending failed n room rest TooLong Cut a b = absurd (long_open rest room a.0 a.1 b.1)
one_ending failed n room rest TooLong Broken a b = absurd (broken_long rest n b a.1)
one_ending failed n room rest TooLong TooLong a b = refl
one_ending failed n room rest TooLong Failed a b = absurd (long_open rest room a.0 a.1 b.1)
one_ending failed n room rest Failed Whole a b = absurd (whole_open rest n room b a.1)
one_ending failed n room rest Failed Cut a b = sym a.0 ∙ b.0
one_ending failed n room rest Failed Broken a b = absurd (broken_open rest n room b a.1)
one_ending failed n room rest Failed TooLong a b = absurd (long_open rest room b.0 b.1 a.1)
one_ending failed n room rest Failed Failed a b = refl

-- a rest of which too little came gives this status
pub ends_open : (failed : Bool) (n room : ℕ) (rest : List ℕ) → IsOpen room rest → Ends failed n room rest (unfinished failed)
ends_open true n room rest little = (refl, little)
ends_open false n room rest little = (refl, little)

-- a whole frame that there is room for
record IsTaken (rest : List ℕ) (room : ℕ) : Type 0 where
  size : HasLength rest
  fits : 4 + number_at 4 rest 0 ≤ length rest
  some : 0 < room

taken_open : (rest : List ℕ) (room : ℕ) → IsTaken rest room → IsOpen room rest → ⊥
taken_open rest room is (inl short) = let size = is.size in omega arith
taken_open rest room is (inr (inl mark)) = let size = is.size in omega arith
taken_open rest room is (inr (inr (some, frame))) = omega arith

taken_on : (failed : Bool) (n room : ℕ) (rest : List ℕ) (s : Status) → IsTaken rest room → Ends failed n room rest s → ⊥
taken_on failed n room rest Whole is ends = whole_long rest n ends is.size
taken_on failed n room rest Cut is ends = taken_open rest room is ends.1
taken_on failed n room rest Broken is ends = broken_long rest n ends is.size
taken_on failed n room rest TooLong is ends = let none = ends.0 in omega arith
taken_on failed n room rest Failed is ends = taken_open rest room is ends.1

-- where a whole frame stands that there is room for, the stream does not end
pub goes_on : (failed : Bool) (n room : ℕ) (rest payload behind : List ℕ) (s : Status) → IsPayload payload → rest ≡ frame_text payload ++ behind → 0 < room → Ends failed n room rest s → ⊥
goes_on failed n room rest payload behind s is split some ends =
    taken_on failed n room rest s (record { size = frame_has_length rest payload behind is split; fits = frame_fits rest payload behind is split; some = some }) ends
