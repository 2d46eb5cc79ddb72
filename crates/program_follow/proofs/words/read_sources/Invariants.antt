use Rattle.std.proofs.Common.{take}
use Rattle.program_follow.specs.Words.{AreSources}
use Rattle.program_follow.proofs.words.read_sources.Given as goal

abbrev pub invariant-loop-i : goal.invariant-loop-i
invariant-loop-i l = AreSources (take l.i l.words) l.sources.items
