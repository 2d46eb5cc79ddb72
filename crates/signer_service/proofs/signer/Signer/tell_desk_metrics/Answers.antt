use Rattle.signer_service.specs.CallAnswers.{IsDeskMetricsTold}
use Rattle.signer_service.specs.Metrics.{IsMetricsTold}
use Rattle.signer_service.proofs.Results.{ok_so}
use Rattle.signer_service.proofs.signer.Signer.tell_desk_metrics.Goals as goal

pub returns : goal.returns
returns g c =
    let n = g.N.DeskNaming in
    let asks = c.args.self.now.reception.now.gate.now.asks in
    let tells = g.K.Approver.tells c.args.self.now.office.now.keeper.now in
    let shown = c.args.self.now.caller.shown in
    let measured = c.in_ok-measured.measured in
    let response = c.tell_metrics.new.response in
    ok_so {P = IsMetricsTold measured response} {Q = IsDeskMetricsTold g.D.Disk n.committee n.replica n.opening asks tells shown response} c.tell_metrics.result (λ told. (measured, c.in_ok-measured.ensures, told)) c.tell_metrics.ensures
