use Rattle.std.proofs.Common.{append_assoc, refl, rules}
use Rattle.replica_command.specs.declared.worker.Answered.{Answered}
use Rattle.replica_command.proofs.Answering.{worked_one_more}
use Rattle.replica_command.proofs.worker.Work.run.Goals as goal

pub loop-number-preserved : goal.loop-number-preserved
loop-number-preserved g c =
    let committee = g.N.DeskNaming.committee in
    let replica = g.N.DeskNaming.replica in
    let outcome = c.in_ok-outcome.outcome in
    let asked = c.in-Some.field-0 in
    let answered : Answered = record { number = asked.number; outcome = outcome } in
    let s = c.in-Some.ensures.steps in (
      search (rules, append_assoc),
      rw c.in_ok-push.ensures.items
          (worked_one_more g.D.Disk committee replica g.N.DeskNaming.opening c.loop-number.yielded c.loop-number.session.receipts.items c.answer_unless_starved.new.session.receipts.items c.loop-number.outcomes.items asked answered
          c.loop-number.invariant.1
          (refl, c.in_ok-outcome.ensures.answer)
          c.in_ok-outcome.ensures.receipts),
    )
