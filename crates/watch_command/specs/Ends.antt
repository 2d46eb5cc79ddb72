-- Why a watch gives up.
use Rattle.program_parts.specs.declared.program_fault.ProgramFault.{ProgramFault}
use Rattle.watch_command.specs.declared.fault.WatchFault.{WatchFault}

abbrev pub Fault : Type 0
Fault = ProgramFault WatchFault
