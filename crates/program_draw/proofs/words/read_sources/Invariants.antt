use Rattle.std.proofs.Common.{take}
use Rattle.std.specs.List.{AllZip}
use Rattle.program_draw.specs.Words.{IsSource}
use Rattle.program_draw.proofs.words.read_sources.Given as goal

abbrev pub invariant-loop-i : goal.invariant-loop-i
invariant-loop-i l = AllZip IsSource (take l.i l.words) l.sources.items
