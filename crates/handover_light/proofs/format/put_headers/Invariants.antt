use Rattle.std.proofs.Common.{◌≡◌, ◌++◌, take}
use Rattle.std.specs.List.{flat_map}
use Rattle.blocks.specs.Headers.{header_text}
use Rattle.handover_light.proofs.format.put_headers.Given as goal

abbrev pub invariant-loop-header : goal.invariant-loop-header
invariant-loop-header l = l.text.items ≡ l.fn.text.items ++ flat_map header_text (take l.header-index l.headers)
