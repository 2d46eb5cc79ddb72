-- The line of each fault.
use Rattle.std.specs.Prelude.{ℕ, List, ◌++◌, codes, decimal}
use Rattle.program_parts.specs.FaultLines.{fault_line, source_fault_line}
use Rattle.program_parts.specs.declared.program_fault.ProgramFault.{ProgramFault}
use Rattle.handover_renewals.specs.RenewalReading.{form_refusal_name, form_refusal_number}
use Rattle.handover_renewals.specs.declared.format.RenewalFormRefusal.{RenewalFormRefusal}
use Rattle.program_follow.specs.declared.fault.FollowFault.{FollowFault}
use Rattle.program_follow.specs.declared.fault.FollowFault.TheVariants.{Sources, OldKey, Renewal, Word}
use Rattle.program_parts.specs.FaultLines.{wrong_word_line}

-- "fault committee 8 OldKey K"
abbrev pub old_key_line : ℕ → List ℕ
old_key_line key = codes "fault committee 8 OldKey " ++ decimal key ++ codes "\n"

-- "fault renewal N NAME"
abbrev pub renewal_fault_line : RenewalFormRefusal → List ℕ
renewal_fault_line refusal = codes "fault renewal " ++ decimal (form_refusal_number refusal) ++ codes " " ++ form_refusal_name refusal ++ codes "\n"

-- of those that this program alone has
abbrev pub own_line : FollowFault → List ℕ
own_line (Sources fault) = source_fault_line fault
own_line (OldKey key) = old_key_line key
own_line (Renewal refusal) = renewal_fault_line refusal
own_line (Word word) = wrong_word_line word.now

abbrev pub follow_fault_line : ProgramFault FollowFault → List ℕ
follow_fault_line fault = fault_line own_line fault
