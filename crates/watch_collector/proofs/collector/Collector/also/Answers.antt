use Rattle.std.proofs.Common.{◌∙◌, ◌++◌, ◌∷◌, [], ap}
use Rattle.audit_evidence.specs.declared.source.SourceReport.{SourceReport}
use Rattle.watch_collector.specs.Collectors.{Collected, unread_report}
use Rattle.watch_collector.proofs.KnownSoFar.{one_log_more}
use Rattle.watch_collector.proofs.collector.Collector.also.Goals as goal

pub returns-clause-ok : goal.returns-clause-ok
returns-clause-ok c =
    one_log_more c.args.replica c.args.self.now (record { gathered = c.self.inside.growing; reports = c.push.new.self.items })
    (ap (λ (k : Collected). k.gathered) c.self.view_is)
    (c.in_ok-push.ensures.items ∙ ap (λ (r : SourceReport). c.self.inside.reports.items ++ r ∷ []) c.unread.ensures
    ∙ ap (λ (k : Collected). k.reports ++ unread_report c.args.replica ∷ []) c.self.view_is)
