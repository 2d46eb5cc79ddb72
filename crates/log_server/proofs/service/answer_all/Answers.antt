use Rattle.std.proofs.Common.{List, length, rules, ap, ◌∙◌}
use Rattle.blocks.specs.Replica.{Stored}
use Rattle.log_server.proofs.ServedRequests.{may_before, served_more}
use Rattle.log_server.proofs.service.answer_all.Goals as goal

pub loop-preserved : goal.loop-preserved
loop-preserved g c =
    let inv = c.loop.invariant in
    let one = c.in_ok-answer_next.ensures in
    let served = one.served.0 in
    let may = may_before _ _ _ _ served inv.stopped (ap (λ (steps : List Stored). length steps) inv.steps) one.served.1 in
    record {
      served = served_more _ _ _ _ _ _ served inv.served may one.served.2;
      entries = one.same.0 ∙ inv.entries;
      steps = one.same.1 ∙ inv.steps;
      stopped = one.same.2 ∙ inv.stopped;
      genesis = one.same.3 ∙ inv.genesis;
      unwritten = search rules;
      failed = one.counted.kept ∙ inv.failed;
    }
