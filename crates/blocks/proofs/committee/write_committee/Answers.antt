use Rattle.std.proofs.Common.{arith, refl, [], ◌<◌, length}
use Rattle.blocks.proofs.CommitteeLaws.{concat-take}
use Rattle.blocks.proofs.committee.write_committee.Goals as goal

pub loop-key-preserved : goal.loop-key-preserved
loop-key-preserved c =
    let below : c.loop-key.key-index < length c.args.keys.now = omega arith in
    rw (c.in_ok-extend_from_slice-4.ensures.items, c.loop-key.invariant, concat-take c.args.keys.now c.loop-key.key-index [] below) refl
