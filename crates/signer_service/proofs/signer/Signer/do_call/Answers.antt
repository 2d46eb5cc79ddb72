use Rattle.std.proofs.Common.{refl}
use Rattle.signer_calls.specs.declared.call.Call.TheVariants as call
use Rattle.signer_service.proofs.SeveralBlocks.{alone}
use Rattle.signer_service.proofs.signer.Signer.do_call.Goals as goal

pub returns-in_ok-judge-in-Judge-clause-ok : goal.returns-in_ok-judge-in-Judge-clause-ok
returns-in_ok-judge-in-Judge-clause-ok g c =
    let n = g.N.DeskNaming in
    let was = c.args.self.now in
    rw c.in-Judge.is (alone g.D.Disk n.committee n.replica n.opening was.reception.now.rules.now was.reception.now.gate.now.asks (g.K.Approver.tells was.office.now.keeper.now) (call.Judge c.in-Judge.vote) was.caller.session.receipts.items was.caller.shown c.judge.new.response (refl, c.in_ok-judge-in-Judge.ensures) (λ is. tt))

pub returns-in_ok-tell_over-in-Over-clause-ok : goal.returns-in_ok-tell_over-in-Over-clause-ok
returns-in_ok-tell_over-in-Over-clause-ok g c =
    let n = g.N.DeskNaming in
    let was = c.args.self.now in
    rw c.in-Over.is (alone g.D.Disk n.committee n.replica n.opening was.reception.now.rules.now was.reception.now.gate.now.asks (g.K.Approver.tells was.office.now.keeper.now) (call.Over c.in-Over.over) was.caller.session.receipts.items was.caller.shown c.tell_over.new.response (refl, c.in_ok-tell_over-in-Over.ensures) (λ is. tt))

pub returns-in_ok-tell_vote-in-VoteIn-clause-ok : goal.returns-in_ok-tell_vote-in-VoteIn-clause-ok
returns-in_ok-tell_vote-in-VoteIn-clause-ok g c =
    let n = g.N.DeskNaming in
    let was = c.args.self.now in
    rw c.in-VoteIn.is (alone g.D.Disk n.committee n.replica n.opening was.reception.now.rules.now was.reception.now.gate.now.asks (g.K.Approver.tells was.office.now.keeper.now) (call.VoteIn c.in-VoteIn.view) was.caller.session.receipts.items was.caller.shown c.tell_vote.new.response (refl, c.in_ok-tell_vote-in-VoteIn.ensures) (λ is. tt))

pub returns-in_ok-tell_renewal-in-Renew-clause-ok : goal.returns-in_ok-tell_renewal-in-Renew-clause-ok
returns-in_ok-tell_renewal-in-Renew-clause-ok g c =
    let n = g.N.DeskNaming in
    let was = c.args.self.now in
    rw c.in-Renew.is (alone g.D.Disk n.committee n.replica n.opening was.reception.now.rules.now was.reception.now.gate.now.asks (g.K.Approver.tells was.office.now.keeper.now) (call.Renew c.in-Renew.shown) was.caller.session.receipts.items was.caller.shown c.tell_renewal.new.response (refl, c.in_ok-tell_renewal-in-Renew.ensures) (λ is. tt))

pub returns-in_ok-tell_desk_status-in-Status-clause-ok : goal.returns-in_ok-tell_desk_status-in-Status-clause-ok
returns-in_ok-tell_desk_status-in-Status-clause-ok g c =
    let n = g.N.DeskNaming in
    let was = c.args.self.now in
    rw c.in-Status.is (alone g.D.Disk n.committee n.replica n.opening was.reception.now.rules.now was.reception.now.gate.now.asks (g.K.Approver.tells was.office.now.keeper.now) call.Status was.caller.session.receipts.items was.caller.shown c.tell_desk_status.new.response (refl, c.in_ok-tell_desk_status-in-Status.ensures) (λ is. tt))

pub returns-in_ok-tell_desk_health-in-Health-clause-ok : goal.returns-in_ok-tell_desk_health-in-Health-clause-ok
returns-in_ok-tell_desk_health-in-Health-clause-ok g c =
    let n = g.N.DeskNaming in
    let was = c.args.self.now in
    rw c.in-Health.is (alone g.D.Disk n.committee n.replica n.opening was.reception.now.rules.now was.reception.now.gate.now.asks (g.K.Approver.tells was.office.now.keeper.now) call.Health was.caller.session.receipts.items was.caller.shown c.tell_desk_health.new.response (refl, c.in_ok-tell_desk_health-in-Health.ensures) (λ is. tt))

pub returns-in_ok-tell_desk_metrics-in-Metrics-clause-ok : goal.returns-in_ok-tell_desk_metrics-in-Metrics-clause-ok
returns-in_ok-tell_desk_metrics-in-Metrics-clause-ok g c =
    let n = g.N.DeskNaming in
    let was = c.args.self.now in
    rw c.in-Metrics.is (alone g.D.Disk n.committee n.replica n.opening was.reception.now.rules.now was.reception.now.gate.now.asks (g.K.Approver.tells was.office.now.keeper.now) call.Metrics was.caller.session.receipts.items was.caller.shown c.tell_desk_metrics.new.response (refl, c.in_ok-tell_desk_metrics-in-Metrics.ensures) (λ is. tt))
