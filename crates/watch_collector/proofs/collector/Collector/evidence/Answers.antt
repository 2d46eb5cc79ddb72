use Rattle.std.proofs.Common.{◌∙◌, ap}
use Rattle.watch_collector.specs.Collectors.{Collected}
use Rattle.watch_collector.proofs.KnownSoFar.{evidence_if_known, shown_under}
use Rattle.watch_collector.proofs.collector.Collector.evidence.Goals as goal

pub returns-clause-evidence : goal.returns-clause-evidence
returns-clause-evidence c = evidence_if_known c.evidence.result c.self.inside.growing c.in_ok-copies.field-0.items c.self.inside.reports.items c.args.self.now c.self.view_is (c.in_ok-copies.ensures ∙ c.deref.ensures.value) c.evidence.ensures

pub returns-clause-under : goal.returns-clause-under
returns-clause-under c = shown_under c.evidence.result c.self.inside.growing c.in_ok-copies.field-0.items c.args.self.now.gathered.committee (ap (λ (k : Collected). k.gathered.committee) c.self.view_is) c.evidence.ensures
