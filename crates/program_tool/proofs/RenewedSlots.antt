-- The lines of slots, as a loop adds them.
use Rattle.std.proofs.Common.{◌≡◌, ℕ, ◌+◌, ◌++◌, List, [], add-one, refl}
use Rattle.handover_renewals.specs.Slots.{is_kept}
use Rattle.program_tool.specs.Renewals.{slot_line, slot_lines}

pub no_slots : (old new : List ℕ) → slot_lines old new 0 ≡ []
unfolding slot_lines
no_slots old new = refl

pub slots_more : (old new : List ℕ) (s : ℕ) → slot_lines old new (s + 1) ≡ slot_lines old new s ++ slot_line s (is_kept old new s)
unfolding slot_lines
slots_more old new s = rw add-one refl
