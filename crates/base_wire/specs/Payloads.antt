-- What a journal holds for an entry, and an export sends as a frame.
use Rattle.std.specs.Prelude.{ℕ, ◌≤◌, ◌<◌, List, length}
use Rattle.base_wire.specs.declared.limits.TheConstants.{LONGEST_PAYLOAD}

-- a payload has at least one byte, and no more than the most
abbrev pub IsPayload : List ℕ → Type 0
IsPayload payload = (0 < length payload) × (length payload ≤ LONGEST_PAYLOAD)
