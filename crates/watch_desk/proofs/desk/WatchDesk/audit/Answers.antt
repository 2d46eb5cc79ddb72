use Rattle.std.proofs.Common.{List, ℕ, subst, sym, ap}
use Rattle.std.specs.List.{All}
use Rattle.std.proofs.lemmas.List.Elements.{All-append}
use Rattle.verdict_format.specs.Proofs.{IsProof}
use Rattle.watch_collector.specs.Collectors.{IsCollected}
use Rattle.watch_desk.specs.Desks.{WatchDesk}
use Rattle.watch_desk.specs.Verdicts.{unnamed}
use Rattle.watch_desk.proofs.HeardAudits.{unnamed_all}
use Rattle.watch_desk.proofs.desk.WatchDesk.audit.Goals as goal

pub invariant_of-self : goal.invariant_of-self
invariant_of-self c =
    let committee = c.self.inside.collector.gathered.committee in
    let found : All (IsProof committee) c.in_ok-audit.audit.report.verdicts =
    subst (λ (k : List ℕ). All (IsProof k) c.in_ok-audit.audit.report.verdicts) c.in_ok-audit.ensures.under c.in_ok-audit.ensures.accepted in
    let old = c.self.inside.told.verdicts in
    subst (All (IsProof committee)) (sym (c.in_ok-heard.ensures c.in_ok-audit.audit.evidence c.in_ok-audit.ensures.searched).verdicts)
    (All-append (IsProof committee) old (unnamed old c.in_ok-audit.audit.report.verdicts) c.self.invariant (unnamed_all (IsProof committee) old c.in_ok-audit.audit.report.verdicts found))

pub returns-clause-audit : goal.returns-clause-audit
returns-clause-audit c committee logs known =
    c.in_ok-audit.ensures.audit committee logs (subst (IsCollected committee logs) (sym (ap (λ (d : WatchDesk). d.collected) c.self.view_is)) known)
