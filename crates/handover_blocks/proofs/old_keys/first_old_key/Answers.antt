use Rattle.std.proofs.Common.{arith}
use Rattle.blocks.specs.Committees.{keys_of}
use Rattle.handover_blocks.specs.OldKeys.{AreNewKeys}
use Rattle.handover_blocks.proofs.Below.{one_more_below}
use Rattle.handover_blocks.proofs.old_keys.first_old_key.Goals as goal

pub loop-r-preserved : goal.loop-r-preserved
loop-r-preserved c =
    one_more_below (λ r. AreNewKeys c.args.old.now c.args.new.now r (keys_of c.args.new.now r)) c.loop-r.r c.loop-r.invariant c.in_default.ensures.first

pub returns : goal.returns
returns c r less =
    let value = c.n-r-end.ensures.value in
    let past = c.loop-r-test.false in
    c.loop-r.invariant r (omega arith)
