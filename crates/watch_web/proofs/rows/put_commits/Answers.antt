use Rattle.std.proofs.Common.{◌++◌, ◌≤◌, List, [], length, ap, ◌∙◌, arith}
use Rattle.std.specs.List.{flat_map}
use Rattle.std.proofs.lemmas.List.{take_all}
use Rattle.blocks.specs.declared.ballot.Ballot.{Ballot}
use Rattle.watch_web.specs.Rows.{commit_row}
use Rattle.watch_web.proofs.Joining.{put_more}
use Rattle.watch_web.proofs.rows.put_commits.Goals as goal

pub loop-block-preserved : goal.loop-block-preserved
loop-block-preserved c =
    put_more commit_row c.args.text.now.items c.loop-block.text.items c.put_commit.new.text.items c.args.blocks.now c.loop-block.block-index
    (record { view = 0; id = [] }) c.loop-block-test.true c.loop-block.invariant c.in_ok-put_commit.ensures

pub returns : goal.returns
returns c =
    let end : length c.args.blocks.now ≤ c.loop-block.block-index = omega arith in
    c.loop-block.invariant ∙ ap (λ (xs : List Ballot). c.args.text.now.items ++ flat_map commit_row xs) (take_all c.loop-block.block-index c.args.blocks.now end)
