use Rattle.std.proofs.Common.{take}
use Rattle.program_tool.specs.Told.{AreTold}
use Rattle.program_tool.proofs.report_file.tell_sources.Given as goal

abbrev pub invariant-loop-i : goal.invariant-loop-i
invariant-loop-i g l = AreTold l.words (take l.i l.judged) l.told.items
