-- The line of each fault.
use Rattle.std.specs.Prelude.{ℕ, List}
use Rattle.program_parts.specs.FaultLines.{fault_line, source_fault_line}
use Rattle.program_parts.specs.declared.program_fault.ProgramFault.{ProgramFault}
use Rattle.program_draw.specs.declared.fault.DrawFault.{DrawFault}
use Rattle.program_draw.specs.declared.fault.DrawFault.TheVariants.{Sources, Word}
use Rattle.program_parts.specs.FaultLines.{wrong_word_line}

-- of those that this program alone has
abbrev pub own_line : DrawFault → List ℕ
own_line (Sources fault) = source_fault_line fault
own_line (Word word) = wrong_word_line word.now

abbrev pub draw_fault_line : ProgramFault DrawFault → List ℕ
draw_fault_line fault = fault_line own_line fault
