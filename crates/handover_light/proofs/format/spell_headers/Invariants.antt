use Rattle.std.proofs.Common.{take}
use Rattle.std.specs.List.{All}
use Rattle.blocks.specs.Headers.{IsHeader}
use Rattle.handover_light.proofs.format.spell_headers.Given as goal

abbrev pub invariant-loop-header : goal.invariant-loop-header
invariant-loop-header l = All IsHeader (take l.header-index l.headers)
