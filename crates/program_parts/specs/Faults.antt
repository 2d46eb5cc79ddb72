-- Why a program that reads a file gives up.
use Rattle.std.specs.Prelude.{◌≡◌, ◌⊎◌}
use Rattle.program_parts.specs.declared.program_fault.ProgramFault.{ProgramFault}
use Rattle.program_parts.specs.declared.program_fault.ProgramFault.TheVariants.{Memory}

-- for want of memory, or for this other reason
abbrev pub IsMemoryOr : {T : Type 0} → ProgramFault T → ProgramFault T → Type 0
IsMemoryOr other fault = (fault ≡ Memory) ⊎ (fault ≡ other)
