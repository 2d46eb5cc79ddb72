use Rattle.std.proofs.Common.{arith, [], ◌<◌, length, take, get_or}
use Rattle.std.specs.List.{concat}
use Rattle.std.proofs.lemmas.List.{append_assoc}
use Rattle.blocks.proofs.CommitteeLaws.{concat-take}
use Rattle.blocks.proofs.committee.put_keys.Goals as goal

pub loop-key-preserved : goal.loop-key-preserved
loop-key-preserved c =
    let below : c.loop-key.key-index < length c.args.keys.now = omega arith in
    rw (c.in_ok-extend_from_slice.ensures.items, c.loop-key.invariant, concat-take c.args.keys.now c.loop-key.key-index [] below) (
    append_assoc c.args.text.now.items (concat (take c.loop-key.key-index c.args.keys.now)) (get_or c.args.keys.now c.loop-key.key-index []))
