-- The line of each fault.
use Rattle.std.specs.Prelude.{ℕ, List, ◌++◌, codes, decimal}
use Rattle.base_text.specs.Printed.{file_line}
use Rattle.handover_keys.specs.EndorsementChecks.{endorsement_refusal_number}
use Rattle.handover_keys.specs.declared.checking.EndorsementRefusal.{EndorsementRefusal}
use Rattle.handover_keys.specs.declared.checking.EndorsementRefusal.TheVariants as of
use Rattle.program_parts.specs.FaultLines.{fault_line, source_fault_line}
use Rattle.program_parts.specs.declared.program_fault.ProgramFault.{ProgramFault}
use Rattle.replica_command.specs.Folders.{name_in_folder}
use Rattle.program_tool.specs.declared.fault.FolderFile.{FolderFile}
use Rattle.program_tool.specs.declared.fault.FolderFile.TheVariants.{Kept, NewVerdict, Replica, Verdict}
use Rattle.program_tool.specs.declared.fault.ToolFault.{ToolFault}
use Rattle.program_tool.specs.declared.fault.ToolFault.TheVariants.{Hex, FileIn, Sources, Store, Receipts, Listen, Endorsement, Twice, TooFew}

-- a file behind its folder
abbrev pub name_behind : FolderFile → List ℕ
name_behind (Replica file) = codes "/" ++ name_in_folder file
name_behind (Verdict replica) = codes "/verdict-" ++ decimal replica ++ codes ".hsx"
name_behind (NewVerdict replica) = codes "/verdict-" ++ decimal replica ++ codes ".hsx.new"
name_behind (Kept replica source) = codes "/" ++ decimal replica ++ codes "-" ++ decimal source ++ codes ".hsl"

-- "fault store N"
abbrev pub store_fault_line : ℕ → List ℕ
store_fault_line number = codes "fault store " ++ decimal number ++ codes "\n"

-- the name of a refusal of an endorsement
abbrev pub endorsement_refusal_name : EndorsementRefusal → List ℕ
endorsement_refusal_name of.Short = codes "Short"
endorsement_refusal_name of.Magic = codes "Magic"
endorsement_refusal_name of.Count = codes "Count"
endorsement_refusal_name of.Length = codes "Length"
endorsement_refusal_name of.Key = codes "Key"
endorsement_refusal_name of.Chain = codes "Chain"
endorsement_refusal_name of.Replica = codes "Replica"
endorsement_refusal_name of.KeyCount = codes "KeyCount"
endorsement_refusal_name of.KeyId = codes "KeyId"
endorsement_refusal_name of.KeyNumber = codes "KeyNumber"
endorsement_refusal_name of.Signature = codes "Signature"

-- "fault endorsement I N NAME"
abbrev pub endorsement_fault_line : ℕ → EndorsementRefusal → List ℕ
endorsement_fault_line place refusal =
    codes "fault endorsement " ++ decimal place ++ codes " " ++ decimal (endorsement_refusal_number refusal) ++ codes " " ++ endorsement_refusal_name refusal ++ codes "\n"

-- "fault renewal 3 Twice J K"
abbrev pub twice_fault_line : ℕ → ℕ → List ℕ
twice_fault_line earlier later = codes "fault renewal 3 Twice " ++ decimal earlier ++ codes " " ++ decimal later ++ codes "\n"

-- of those that this program alone has
abbrev pub own_line : ToolFault → List ℕ
own_line Hex = codes "fault hex\n"
own_line (FileIn folder file) = file_line folder.now (name_behind file)
own_line (Sources fault) = source_fault_line fault
own_line (Store number) = store_fault_line number
own_line Receipts = codes "fault receipts\n"
own_line Listen = codes "fault listen\n"
own_line (Endorsement place refusal) = endorsement_fault_line place refusal
own_line (Twice earlier later) = twice_fault_line earlier later
own_line TooFew = codes "fault renewal 5 TooFew\n"

abbrev pub tool_fault_line : ProgramFault ToolFault → List ℕ
tool_fault_line fault = fault_line own_line fault
