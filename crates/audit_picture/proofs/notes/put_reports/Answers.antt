use Rattle.std.proofs.Common.{arith, refl}
use Rattle.audit_picture.specs.Sources.{IsSourceLine}
use Rattle.audit_picture.proofs.Series.{adds_more}
use Rattle.audit_picture.proofs.notes.put_reports.Goals as goal

pub loop-index-preserved : goal.loop-index-preserved
loop-index-preserved c =
    adds_more IsSourceLine c.args.reports.now c.loop-index.index _ _ _ _ (omega arith) c.loop-index.invariant (_, (c.loop-index.y, refl), c.in_ok-put_source.ensures)
