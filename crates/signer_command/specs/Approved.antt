-- Which committee a signer votes to hand over to, and which first block it votes for in a chain that was handed over to.
use Rattle.std.specs.Prelude.{◌≡◌, ◌++◌, ℕ, List, Option, Some, None, codes, option_map, take}
use Rattle.std.specs.Borrow.{Bor}
use Rattle.handover_steps.specs.Successors.{IsSuccessorPayload}

-- none without a path; else the payload of a file that is a committee's, and has no key of this one or of an earlier one but for kept
-- slots, or none
abbrev pub IsApprovable : List (List ℕ) → List ℕ → Option (Bor (List ℕ)) → Option (List ℕ) → Type 0
IsApprovable earlier committee None told = told ≡ None
IsApprovable earlier committee (Some path) (Some payload) = IsSuccessorPayload earlier committee payload
IsApprovable earlier committee (Some path) None = Unit {0}

-- "HSO1", and the first 28 bytes of the handover block's id
abbrev pub first_text : List ℕ → List ℕ
first_text handover = codes "HSO1" ++ take 28 handover

-- in a chain that was handed over to by this block; in any other there is no such one
abbrev pub first_payload : Option (List ℕ) → Option (List ℕ)
first_payload handover = option_map first_text handover
