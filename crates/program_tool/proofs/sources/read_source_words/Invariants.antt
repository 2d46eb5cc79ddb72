use Rattle.std.proofs.Common.{take}
use Rattle.program_tool.specs.OpenedSources.{SpellSources}
use Rattle.program_tool.proofs.sources.read_source_words.Given as goal

abbrev pub invariant-loop-i : goal.invariant-loop-i
invariant-loop-i l = SpellSources (take l.i l.words) l.sources.items
