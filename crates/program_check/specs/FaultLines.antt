-- The line of each fault.
use Rattle.std.specs.Prelude.{ℕ, List, codes}
use Rattle.program_parts.specs.FaultLines.{fault_line}
use Rattle.program_parts.specs.declared.program_fault.ProgramFault.{ProgramFault}
use Rattle.program_check.specs.declared.fault.CheckFault.{CheckFault}
use Rattle.program_check.specs.declared.fault.CheckFault.TheVariants.{Hex, Unreadable}

-- of those that this program alone has
abbrev pub own_line : CheckFault → List ℕ
own_line Hex = codes "fault hex\n"
own_line Unreadable = codes "fault hex\n"

abbrev pub check_fault_line : ProgramFault CheckFault → List ℕ
check_fault_line fault = fault_line own_line fault
