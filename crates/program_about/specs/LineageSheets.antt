-- A verdict as a sheet, with the steps from an earlier committee to its own.
use Rattle.std.specs.Prelude.{◌≡◌, ◌≢◌, ◌≤◌, ◌+◌, ◌++◌, ◌∷◌, [], ℕ, zero, suc, List, Option, Some, None, String, option_copied, codes, decimal, length, slice_get, slice_index_or, string_bytes, take, map}
use Rattle.std.specs.Borrow.{Bor}
use Rattle.std.specs.declared.alloc.Global.{Global}
use Rattle.blocks.specs.Committees.{IsCommittee}
use Rattle.handover_steps.specs.LineageLines.{nth_step, steps_text}
use Rattle.handover_steps.specs.JudgedSteps.{IsLineageOf, Lineage}
use Rattle.handover_steps.specs.Steps.{Step, StepFiles}
use Rattle.program_parts.specs.FaultLines.{fault_line}
use Rattle.program_parts.specs.declared.program_fault.ProgramFault.{ProgramFault}
use Rattle.handover_renewals.specs.declared.kinds.SlotKind.{SlotKind}
use Rattle.handover_renewals.specs.declared.kinds.SlotKind.TheVariants.{Kept, New, ByHand}
use Rattle.verdict_format.specs.Verdicts.{replica_in}
use Rattle.program_about.specs.Sheets.{IsSheet}
use Rattle.program_about.specs.declared.lineage.SheetFault.{SheetFault}

-- ---- words

abbrev pub AreOptions : (option lineage with : String Global) → Type 0
AreOptions option lineage with = (string_bytes option ≡ codes "--statement") × (string_bytes lineage ≡ codes "--lineage") × (string_bytes with ≡ codes "--committee")

-- `--statement VERDICT --lineage DIR --committee C0`
abbrev pub AskForLineageSheet : List (String Global) → Type 0
AskForLineageSheet (option ∷ verdict ∷ lineage ∷ dir ∷ with ∷ committee ∷ []) = AreOptions option lineage with
AskForLineageSheet words = ⊥

-- ---- the way of a slot

abbrev pub kind_in : Option (Bor SlotKind) → Option SlotKind
kind_in kind = option_copied kind

abbrev pub way_text : Option SlotKind → List ℕ
way_text (Some New) = codes "new"
way_text (Some Kept) = codes "kept"
way_text (Some ByHand) = codes "by hand"
way_text None = codes "absent"

-- "step N slot R WAY"
unfoldable pub way_line : ℕ → ℕ → Option SlotKind → List ℕ
way_line n r kind = codes "step " ++ decimal n ++ codes " slot " ++ decimal r ++ codes " " ++ way_text kind ++ codes "\n"

-- in the first n steps
abbrev pub ways_upto : List Step → ℕ → ℕ → List ℕ
ways_upto steps r zero = []
ways_upto steps r (suc n) = ways_upto steps r n ++ way_line (n + 1) r (slice_get (nth_step steps n).kinds r)

-- ---- behind the sheet

unfoldable pub steps_head : List ℕ
steps_head = codes "\nThe steps from the first committee to this one:\n\n"

unfoldable pub ways_head : List ℕ
ways_head = codes "\nThe replica's slot in each of them:\n\n"

unfoldable pub proves_part : List ℕ
proves_part =
    codes "\nThis proves, and no more, that the replica's keys in this committee come from those of its slot\nin the first committee by these steps, each of which a quorum of the committee before it\ncommitted. In a step that says new, its own key of the committee before signed for its next\nkeys; where it says kept, they are the same. Where it says by hand, it is not shown that anybody\nsigned for them: an operator was taken at his word there, or the renewal is missing. Where it\nsays absent, there is no such slot.\n"

abbrev pub lineage_part : List Step → ℕ → List ℕ
lineage_part steps r = steps_head ++ (steps_text steps ++ (ways_head ++ (ways_upto steps r (length steps) ++ proves_part)))

-- ---- all

-- the committee that the first n of these steps come to
abbrev pub committee_after : List ℕ → List StepFiles → ℕ → List ℕ
committee_after root files n = slice_index_or (root ∷ map (λ f. f.file) files) n []

-- the sheet, and the steps behind it if the verdict is accepted
abbrev pub with_steps : ℕ → List ℕ → List Step → List ℕ → List ℕ
with_steps zero sheet steps verdict = sheet ++ lineage_part steps (replica_in verdict)
with_steps (suc n) sheet steps verdict = sheet

abbrev pub IsSheetWith : List ℕ → List Step → List ℕ → ℕ → List ℕ → Type 0
IsSheetWith committee steps verdict status text = (sheet : List ℕ) × IsSheet committee verdict status sheet × (text ≡ with_steps status sheet steps verdict)

-- of a verdict under a committee to which some first steps of a lineage come
pub record IsLineageSheet (status : ℕ) (text : List ℕ) : Type 0 where
  pub root : List ℕ
  pub is_root : IsCommittee root
  pub files : List StepFiles
  pub lineage : Lineage
  pub is_lineage : IsLineageOf root files lineage
  pub place : ℕ
  pub within : place ≤ length lineage.steps
  pub verdict : List ℕ
  pub sheet : IsSheetWith (committee_after root files place) (take place lineage.steps) verdict status text

-- ---- faults

abbrev pub own_line : SheetFault → List ℕ
own_line fault = codes "fault lineage\n"

abbrev pub sheet_fault_line : ProgramFault SheetFault → List ℕ
sheet_fault_line fault = fault_line own_line fault
