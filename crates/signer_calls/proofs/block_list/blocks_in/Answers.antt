use Rattle.std.proofs.Common.{◌<◌, ◌≤◌, length, rules}
use Rattle.signer_calls.proofs.BlockLists.{broken, nothing_read, read_all, read_one}
use Rattle.signer_calls.proofs.block_list.blocks_in.Goals as goal

pub returns-in-None : goal.returns-in-None
returns-in-None c =
    let more : 0 < length c.loop-all.left = search rules in
    broken c.args.body.now c.loop-all.all.items c.loop-all.left c.loop-all.invariant more (rw c.in-None.is at c.in_ok-read.ensures)

pub loop-all-preserved : goal.loop-all-preserved
loop-all-preserved c =
    let few : length c.loop-all.all.items < 64 = search rules in
    let pair = rw c.in-Some.is at c.in_ok-read.ensures in
    rw c.in_ok-push-in-Some.ensures.items (read_one c.args.body.now c.loop-all.all.items c.loop-all.left _ _ c.loop-all.invariant pair few)

pub returns-then-is_empty : goal.returns-then-is_empty
returns-then-is_empty c =
    let none : length c.loop-all.left ≤ 0 = search rules in
    let no_blocks : length c.loop-all.all.items ≤ 0 = search rules in
    nothing_read c.args.body.now c.loop-all.all.items c.loop-all.left c.loop-all.invariant none no_blocks

pub returns : goal.returns
returns c =
    let none : length c.loop-all.left ≤ 0 = search rules in
    let some : 0 < length c.loop-all.all.items = search rules in
    read_all c.args.body.now c.loop-all.all.items c.loop-all.left c.loop-all.invariant none some
