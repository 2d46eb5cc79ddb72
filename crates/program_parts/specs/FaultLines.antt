-- The line of each fault of a program.
use Rattle.std.specs.Prelude.{ℕ, List, [], ◌++◌, codes, decimal}
use Rattle.base_text.specs.Printed.{file_line, committee_line, printed}
use Rattle.program_parts.specs.declared.no_fault.NoFault.{NoFault}
use Rattle.program_parts.specs.declared.program_fault.ProgramFault.{ProgramFault}
use Rattle.program_parts.specs.declared.program_fault.ProgramFault.TheVariants.{Usage, Memory, File, Committee, Output, Own}
use Rattle.program_parts.specs.declared.source_fault.SourceFault.{SourceFault}
use Rattle.program_parts.specs.declared.source_fault.SourceFault.TheVariants.{Word, Collision}

-- the line of a fault, where those that one program alone has are told by these lines
abbrev pub fault_line : {T : Type 0} → (T → List ℕ) → ProgramFault T → List ℕ
fault_line own_line Usage = codes "fault usage\n"
fault_line own_line Memory = codes "fault memory\n"
fault_line own_line (File path) = file_line path.now []
fault_line own_line (Committee refusal) = committee_line refusal
fault_line own_line Output = codes "fault output\n"
fault_line own_line (Own fault) = own_line fault

-- of a program that has none of its own: nobody makes this fault, and its line is one that stands above
abbrev pub no_fault_line : NoFault → List ℕ
no_fault_line fault = codes "fault usage\n"

-- "fault source I", or "fault collision"
abbrev pub source_fault_line : SourceFault → List ℕ
source_fault_line (Word i) = codes "fault source " ++ decimal i ++ codes "\n"
source_fault_line Collision = codes "fault collision\n"

-- "fault usage WORD": the first word that is wrong
abbrev pub wrong_word_line : List ℕ → List ℕ
wrong_word_line word = codes "fault usage " ++ (printed word ++ codes "\n")
