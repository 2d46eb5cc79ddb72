-- The line of each fault.
use Rattle.std.specs.Prelude.{ℕ, List, ◌++◌, codes}
use Rattle.program_parts.specs.FaultLines.{fault_line, source_fault_line}
use Rattle.program_parts.specs.declared.program_fault.ProgramFault.{ProgramFault}
use Rattle.program_parts.specs.declared.source_fault.SourceFault.TheVariants.{Word as SourceWord}
use Rattle.program_follow.specs.declared.lineage_fault.LineageFault.{LineageFault}
use Rattle.program_follow.specs.declared.lineage_fault.LineageFault.TheVariants.{Word, Source}
use Rattle.program_parts.specs.FaultLines.{wrong_word_line}

-- of those that this program alone has
abbrev pub own_line : LineageFault → List ℕ
own_line (Word word) = wrong_word_line word.now
own_line (Source i) = source_fault_line (SourceWord i)

abbrev pub lineage_fault_line : ProgramFault LineageFault → List ℕ
lineage_fault_line fault = fault_line own_line fault
