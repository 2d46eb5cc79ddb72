use Rattle.std.proofs.Common.{arith, refl}
use Rattle.audit_picture.specs.Descriptions.{IsAccused}
use Rattle.audit_picture.proofs.Series.{adds_more}
use Rattle.audit_picture.proofs.description.put_all_accused.Goals as goal

pub loop-index-preserved : goal.loop-index-preserved
loop-index-preserved c =
    adds_more IsAccused c.args.culprits.now c.loop-index._index _ _ _ _ (omega arith) c.loop-index.invariant (_, refl, c.in_ok-put_accused.ensures)
