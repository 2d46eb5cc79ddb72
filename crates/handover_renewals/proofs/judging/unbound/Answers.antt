use Rattle.std.proofs.Common.{below_more, refl}
use Rattle.handover_renewals.specs.Renewing.{HasIds}
use Rattle.handover_renewals.proofs.judging.unbound.Goals as goal

pub loop-s-preserved : goal.loop-s-preserved
loop-s-preserved c = below_more (HasIds c.args.old.now c.args.new.now) c.loop-s.s c.loop-s.invariant (c.if-not-has_ids.ensures.0 refl)
