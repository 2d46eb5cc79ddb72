use Rattle.handover_steps.proofs.Going.{cut_at, one_more_at}
use Rattle.handover_steps.proofs.lineage.judge_lineage.Goals as goal

pub returns-in-Err : goal.returns-in-Err
returns-in-Err c =
    cut_at c.args.root.now c.args.files.now c.loop-one.one-index c.loop-one.old c.loop-one.steps.items c.one-item.result c.in-Err.refusal c.refused.result
    c.loop-one-test.true c.one-item.is c.loop-one.invariant c.in-Err.ensures.refused c.refused.ensures

pub loop-one-preserved : goal.loop-one-preserved
loop-one-preserved c =
    one_more_at c.args.root.now c.args.files.now c.loop-one.one-index c.loop-one.old c.in-Ok.new c.loop-one.steps.items c.push.new.self.items c.one-item.result c.in-Ok.step
    c.loop-one-test.true c.one-item.is c.loop-one.invariant c.in-Ok.ensures.found.0 c.in-Ok.ensures.found.1 c.in_ok-push-in-Ok.ensures.items
