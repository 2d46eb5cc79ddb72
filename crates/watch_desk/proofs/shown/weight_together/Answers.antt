use Rattle.std.proofs.Common.{◌∙◌, refl}
use Rattle.watch_report.specs.declared.snapshot.Culprit.{Culprit}
use Rattle.watch_desk.proofs.Showing.{capped_more}
use Rattle.watch_desk.proofs.shown.weight_together.Goals as goal

pub loop-culprit-preserved : goal.loop-culprit-preserved
loop-culprit-preserved c =
    let culprit = c.culprit-item.result in
    c.saturating_add-weight.ensures ∙ capped_more (λ (x : Culprit). x.weight) c.args.culprits.now c.loop-culprit.culprit-index culprit c.loop-culprit.weight culprit.weight c.loop-culprit-test.true c.culprit-item.is c.loop-culprit.invariant refl
