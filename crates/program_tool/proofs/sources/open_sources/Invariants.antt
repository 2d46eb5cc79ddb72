use Rattle.std.proofs.Common.{take}
use Rattle.std.specs.List.{All, AllZip}
use Rattle.program_tool.specs.OpenedSources.{IsOpenedAs}
use Rattle.program_tool.specs.SourceTries.{IsTriedAs}
use Rattle.program_tool.proofs.sources.open_sources.Given as goal

abbrev pub invariant-loop-i : goal.invariant-loop-i
invariant-loop-i g l = All (λ s. IsTriedAs l.tries.count s.connector.connector s.tries) l.sources.items
    × AllZip (λ word s. IsOpenedAs word s.replica s.connector.connector) (take l.i l.words) l.sources.items
