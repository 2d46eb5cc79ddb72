-- The line of each fault.
use Rattle.std.specs.Prelude.{ℕ, List, ◌++◌, codes, decimal}
use Rattle.base_text.specs.Printed.{file_line}
use Rattle.program_parts.specs.FaultLines.{fault_line, source_fault_line}
use Rattle.program_parts.specs.declared.program_fault.ProgramFault.{ProgramFault}
use Rattle.watch_command.specs.declared.fault.FolderFile.{FolderFile}
use Rattle.watch_command.specs.declared.fault.FolderFile.TheVariants.{Lock, Chain, Export, Part, Committee, Renewal, Stay}
use Rattle.watch_command.specs.declared.fault.WatchFault.{WatchFault}
use Rattle.watch_command.specs.declared.fault.WatchFault.TheVariants.{Sources, FileIn, State, Listen, Threads, Word}
use Rattle.program_parts.specs.FaultLines.{wrong_word_line}

-- a log of a source of a replica, behind its folder
abbrev pub log_behind : ℕ → ℕ → ℕ → List ℕ
log_behind replica source log = codes "/" ++ decimal replica ++ codes "-" ++ decimal source ++ codes "-" ++ decimal log

-- what is of the committee of this number, behind its folder
abbrev pub number_behind : ℕ → List ℕ
number_behind number = codes "/" ++ decimal number

-- a file behind its folder
abbrev pub name_behind : FolderFile → List ℕ
name_behind Lock = codes "/lock"
name_behind Chain = codes "/chain"
name_behind (Export replica source log) = log_behind replica source log ++ codes ".hsl"
name_behind (Part replica source log place) = log_behind replica source log ++ codes "-" ++ decimal place
name_behind (Committee number) = number_behind number ++ codes ".hsc"
name_behind (Renewal number) = number_behind number ++ codes ".hsr"
name_behind (Stay number) = number_behind number

-- of those that this program alone has
abbrev pub own_line : WatchFault → List ℕ
own_line (Sources fault) = source_fault_line fault
own_line (FileIn folder file) = file_line folder.now (name_behind file)
own_line State = codes "fault state\n"
own_line Listen = codes "fault listen\n"
own_line Threads = codes "fault threads\n"
own_line (Word word) = wrong_word_line word.now

abbrev pub watch_fault_line : ProgramFault WatchFault → List ℕ
watch_fault_line fault = fault_line own_line fault
