use Rattle.std.proofs.Common.{arith}
use Rattle.audit_picture.specs.Lanes.{IsLane}
use Rattle.audit_picture.proofs.Series.{adds_more}
use Rattle.audit_picture.proofs.lanes.put_each.Goals as goal

pub loop-index-preserved : goal.loop-index-preserved
loop-index-preserved c =
    adds_more IsLane c.args.culprits.now c.loop-index.index _ _ _ _ (omega arith) c.loop-index.invariant c.in_ok-put_lane.ensures
