use Rattle.std.proofs.Common.{◌≡◌, ◌++◌, take}
use Rattle.std.specs.Prelude.{codes}
use Rattle.std.specs.List.{flat_map}
use Rattle.watch_web.specs.Reports.{block_text}
use Rattle.watch_web.proofs.lists.put_more_blocks.Given as goal

abbrev pub invariant-loop-block : goal.invariant-loop-block
invariant-loop-block l = l.text.items ≡ l.fn.text.items ++ flat_map (λ y. codes "," ++ block_text y) (take l.block-index l.blocks)
