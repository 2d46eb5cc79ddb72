use Rattle.std.proofs.Common.{◌∙◌, List, ◌++◌, ap, subst, sym}
use Rattle.http_server.specs.Exchange.{Call as Exchanged}
use Rattle.http_server.proofs.Theorems.{always_served}
use Rattle.signer_service.specs.CallAnswers.{AreBacked}
use Rattle.signer_service.proofs.Backing.{chain_backs, chain_grows, chain_shows, chain_stays}
use Rattle.signer_service.proofs.serving.serve_calls.Goals as goal

pub returns-clause-backed : goal.returns-clause-backed
returns-clause-backed g c =
    let calls = c.serve.ensures.calls in
    let n = g.N.DeskNaming in
    let signer = c.args.signer.now in
    let receipts = c.serve.new.service.caller.session.receipts.items in
    subst (λ (cs : List Exchanged). AreBacked g.D.Disk n.committee n.replica n.opening signer.reception.now.rules.now signer.reception.now.gate.now.asks (g.K.Approver.tells signer.office.now.keeper.now) receipts signer.caller.shown cs c.serve.new.service.caller.shown)
    (sym (calls.1 ∙ ap (λ (cs : List Exchanged). cs ++ calls.0) c.requires))
    (chain_backs g.D.Disk n.committee n.replica n.opening (λ s. s.reception) (λ p. p.now.rules.now) (λ p. p.now.gate.now.asks) (λ s. s.office) (λ o. g.K.Approver.tells o.now.keeper.now) (λ s. s.caller.shown) (λ s. s.caller.session.receipts.items) calls.0 _ _ calls.2)

pub returns-clause-grows : goal.returns-clause-grows
returns-clause-grows g c =
    let calls = c.serve.ensures.calls in
    let n = g.N.DeskNaming in
    chain_grows g.D.Disk n.committee n.replica n.opening (λ s. s.reception) (λ p. p.now.rules.now) (λ p. p.now.gate.now.asks) (λ s. s.office) (λ o. g.K.Approver.tells o.now.keeper.now) (λ s. s.caller.shown) (λ s. s.caller.session.receipts.items) calls.0 _ _ calls.2

pub returns-clause-shown : goal.returns-clause-shown
returns-clause-shown g c =
    let calls = c.serve.ensures.calls in
    let n = g.N.DeskNaming in
    chain_shows g.D.Disk n.committee n.replica n.opening (λ s. s.reception) (λ p. p.now.rules.now) (λ p. p.now.gate.now.asks) (λ s. s.office) (λ o. g.K.Approver.tells o.now.keeper.now) (λ s. s.caller.shown) (λ s. s.caller.session.receipts.items) calls.0 _ _ calls.2

pub returns-clause-same : goal.returns-clause-same
returns-clause-same g c =
    let calls = c.serve.ensures.calls in
    let n = g.N.DeskNaming in
    chain_stays g.D.Disk n.committee n.replica n.opening (λ s. s.reception) (λ p. p.now.rules.now) (λ p. p.now.gate.now.asks) (λ s. s.office) (λ o. g.K.Approver.tells o.now.keeper.now) (λ s. s.caller.shown) (λ s. s.caller.session.receipts.items) calls.0 _ _ calls.2

pub returns-clause-served : goal.returns-clause-served
returns-clause-served g c = always_served c.serve.new.connection
