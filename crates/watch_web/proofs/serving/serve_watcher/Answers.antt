use Rattle.std.proofs.Common.{◌∙◌, List, ◌++◌, ap, subst, sym}
use Rattle.std.specs.List.{All}
use Rattle.http_server.specs.Exchange.{Call as Exchanged}
use Rattle.http_server.proofs.Theorems.{always_served}
use Rattle.watch_web.specs.Answers.{IsCallAnswered}
use Rattle.watch_web.proofs.Chains.{chain_answers}
use Rattle.watch_web.proofs.serving.serve_watcher.Goals as goal

pub returns-clause-answered : goal.returns-clause-answered
returns-clause-answered g c =
    let calls = c.serve.ensures.calls in
    subst (λ (cs : List Exchanged). All (IsCallAnswered c.args.watcher.now.hosts.now) cs)
    (sym (calls.1 ∙ ap (λ (cs : List Exchanged). cs ++ calls.0) c.requires))
    (chain_answers (λ s. s.hosts) (λ b. b.now) calls.0 _ _ calls.2)

pub returns-clause-served : goal.returns-clause-served
returns-clause-served g c = always_served c.serve.new.connection
