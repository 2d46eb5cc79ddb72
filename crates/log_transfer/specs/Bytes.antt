-- How many bytes of a connection are read.
use Rattle.std.specs.Prelude.{ℕ, ◌≤◌, ◌+◌, ◌*◌}
use Rattle.base_wire.specs.declared.limits.TheConstants.{LONGEST_PAYLOAD}
use Rattle.log_transfer.specs.declared.budget.TheConstants.{MOST_OF_A_STREAM}
use Rattle.log_transfer.specs.declared.stream.Came.{Came}
use Rattle.log_transfer.specs.declared.stream.Came.TheVariants.{Frame, End}

-- how many bytes the magic and so many frames have at most
abbrev pub most_of_frames : ℕ → ℕ
most_of_frames count = 4 + (4 + LONGEST_PAYLOAD) * count

-- how many were read at most behind one more frame, or behind the end
abbrev pub IsCameWithin : ℕ → ℕ → Came → Type 0
IsCameWithin count taken (Frame n) = taken ≤ most_of_frames (count + 1)
IsCameWithin count taken (End status) = taken ≤ MOST_OF_A_STREAM
