use Rattle.std.proofs.Common.{◌++◌, ◌≤◌, List, [], length, ap, ◌∙◌, arith}
use Rattle.std.specs.Prelude.{codes}
use Rattle.std.specs.List.{flat_map}
use Rattle.std.proofs.lemmas.List.{take_all}
use Rattle.blocks.specs.declared.ballot.Ballot.{Ballot}
use Rattle.watch_web.specs.Reports.{block_text}
use Rattle.watch_web.proofs.Joining.{put_more, two_pieces}
use Rattle.watch_web.proofs.lists.put_more_blocks.Goals as goal

pub loop-block-preserved : goal.loop-block-preserved
loop-block-preserved c =
    put_more (λ (y : Ballot). codes "," ++ block_text y) c.args.text.now.items c.loop-block.text.items c.put_block.new.text.items c.args.blocks.now c.loop-block.block-index
    (record { view = 0; id = [] }) c.loop-block-test.true c.loop-block.invariant
    (two_pieces _ _ _ _ _ c.in_ok-append.ensures.ok c.in_ok-put_block.ensures)

pub returns : goal.returns
returns c =
    let end : length c.args.blocks.now ≤ c.loop-block.block-index = omega arith in
    c.loop-block.invariant ∙ ap (λ (xs : List Ballot). c.args.text.now.items ++ flat_map (λ (y : Ballot). codes "," ++ block_text y) xs) (take_all c.loop-block.block-index c.args.blocks.now end)
