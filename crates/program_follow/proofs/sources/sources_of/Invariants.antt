use Rattle.std.proofs.Common.{take}
use Rattle.std.specs.List.{AllZip}
use Rattle.program_follow.specs.Sources.{IsOpenedAs}
use Rattle.program_follow.proofs.sources.sources_of.Given as goal

abbrev pub invariant-loop-i : goal.invariant-loop-i
invariant-loop-i g l = AllZip IsOpenedAs (take l.i l.words) l.sources.items
