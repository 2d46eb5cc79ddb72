-- A renewal that is made of endorsements in files, and its lines.
use Rattle.std.specs.Prelude.{◌≡◌, ◌++◌, ℕ, zero, suc, List, [], Bool, true, false, Option, codes, decimal, length}
use Rattle.hex.specs.Hex.{encode_lower}
use Rattle.base_streams.specs.Streams.{Wrote}
use Rattle.blocks.specs.Committees.{IsCommittee, n_of}
use Rattle.blocks.specs.Weights.{total_of}
use Rattle.handover_blocks.specs.Handovers.{handover_payload}
use Rattle.program_parts.specs.declared.program_fault.ProgramFault.{ProgramFault}
use Rattle.program_parts.specs.declared.program_fault.ProgramFault.TheVariants as program
use Rattle.handover_renewals.specs.Slots.{is_kept}
use Rattle.handover_renewals.specs.Making.{IsRenewalMade}
use Rattle.handover_renewals.specs.declared.making.Made.{Made}
use Rattle.handover_renewals.specs.declared.making.MakingRefusal.{MakingRefusal}
use Rattle.handover_renewals.specs.declared.making.MakingRefusal.TheVariants.{Memory, Endorsement, Twice, Committee, TooFew}
use Rattle.program_tool.specs.declared.fault.ToolFault.{ToolFault}
use Rattle.program_tool.specs.declared.fault.ToolFault.TheVariants as tool

-- ---- lines

abbrev pub slot_word : Bool → List ℕ
slot_word true = codes "kept"
slot_word false = codes "new"

-- "slot S new", or "slot S kept"
unfoldable pub slot_line : ℕ → Bool → List ℕ
slot_line s kept = codes "slot " ++ decimal s ++ codes " " ++ slot_word kept ++ codes "\n"

-- those of the first n slots
unfoldable pub slot_lines : List ℕ → List ℕ → ℕ → List ℕ
slot_lines old new zero = []
slot_lines old new (suc n) = slot_lines old new n ++ slot_line n (is_kept old new n)

-- "renews PAYLOAD new S of W"
unfoldable pub renews_line : List ℕ → ℕ → ℕ → List ℕ
renews_line payload weight total = codes "renews " ++ encode_lower payload ++ codes " new " ++ decimal weight ++ codes " of " ++ decimal total ++ codes "\n"

-- of each slot, and of the whole
abbrev pub made_lines : List ℕ → Made → List ℕ
made_lines old made =
    slot_lines old made.committee.items (n_of old) ++ renews_line (handover_payload made.committee.items) made.slots.weight (total_of old)

-- ---- what a command prints

-- the lines of what is made of so many endorsements of a committee
pub record IsRenewalPrinted (count : ℕ) (before after : Option (List ℕ)) : Type 0 where
  pub old : List ℕ
  pub is_committee : IsCommittee old
  pub endorsements : List (List ℕ)
  pub many : length endorsements ≡ count
  pub made : Made
  pub is_made : IsRenewalMade old endorsements made
  pub wrote : Wrote before after (made_lines old made)

-- ---- its faults

-- a refusal as a fault
abbrev pub making_fault : MakingRefusal → ProgramFault ToolFault
making_fault Memory = program.Memory
making_fault (Endorsement place refusal) = program.Own (tool.Endorsement place refusal)
making_fault (Twice earlier later) = program.Own (tool.Twice earlier later)
making_fault (Committee refusal) = program.Committee refusal
making_fault TooFew = program.Own tool.TooFew
