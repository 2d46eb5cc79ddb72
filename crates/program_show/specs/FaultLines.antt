-- The line of each fault.
use Rattle.std.specs.Prelude.{ℕ, List}
use Rattle.program_parts.specs.FaultLines.{fault_line, no_fault_line}
use Rattle.program_parts.specs.declared.no_fault.NoFault.{NoFault}
use Rattle.program_parts.specs.declared.program_fault.ProgramFault.{ProgramFault}

abbrev pub show_fault_line : ProgramFault NoFault → List ℕ
show_fault_line fault = fault_line no_fault_line fault
