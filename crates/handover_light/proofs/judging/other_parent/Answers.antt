use Rattle.std.proofs.Common.{below_more, refl}
use Rattle.handover_light.specs.Proving.{IsOnPrevious}
use Rattle.handover_light.proofs.judging.other_parent.Goals as goal

pub loop-k-preserved : goal.loop-k-preserved
loop-k-preserved c = below_more (IsOnPrevious c.args.proof.now) c.loop-k.k c.loop-k.invariant (c.if-not-is_on_previous.ensures.0 refl)
