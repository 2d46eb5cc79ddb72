use Rattle.watch_desk.proofs.Sourcing.{one_source_more}
use Rattle.watch_desk.proofs.desk.fresh_sources.Goals as goal

pub loop-i-preserved : goal.loop-i-preserved
loop-i-preserved c =
    rw c.in_ok-push.ensures.items
    (one_source_more c.args.replicas.now c.loop-i.i c.loop-i.sources.items c.in_ok-new.field-0 c.loop-i-test.true c.loop-i.invariant c.in_ok-new.ensures.fresh c.in_ok-new.ensures.replica)
