-- What the tool tells of a fault.
use Rattle.std.specs.Prelude.{ℕ, List, Option}
use Rattle.base_text.specs.Printed.{Told}
use Rattle.program_parts.specs.Writes.{CountsOutput}
use Rattle.program_parts.specs.declared.program_fault.ProgramFault.{ProgramFault}
use Rattle.program_tool.specs.FaultLines.{tool_fault_line}
use Rattle.program_tool.specs.declared.fault.ToolFault.{ToolFault}

-- the line of one fault was told, and it blames the sink where a write to that failed
abbrev pub TellsFault : Option (List ℕ) → Option (List ℕ) → ℕ → ℕ → ℕ → ℕ → Type 0
TellsFault before after told told' failures failures' =
    (fault : ProgramFault ToolFault) × CountsOutput fault failures failures'
    × Told before after told told' (tool_fault_line fault)
