use Rattle.std.proofs.Common.{List, ℕ, subst, sym}
use Rattle.std.specs.Prelude.{MatchResult}
use Rattle.base_streams.specs.Streams.{Wrote}
use Rattle.audit_evidence.specs.Evidence.{Evidence}
use Rattle.parallel_verify.specs.Collections.{MayFail, MayGive}
use Rattle.culprit_search.specs.ReportText.{report_text}
use Rattle.audit_run.specs.Runs.{IsAccounted, IsAuditRun, IsMemoryOrSink, ProveAConflict}
use Rattle.audit_run.proofs.run.audit_run_by.Goals as goal

pub returns-clause-accountability : goal.returns-clause-accountability
returns-clause-accountability g c logs is complete prove =
    let same = c.in_ok-view.ensures.found.0 in
    let done = c.audit_run_of in
    let Done : List ℕ → Type 0 = λ k. MatchResult done.result (λ r. (e : Evidence)
    × IsAuditRun (MayGive g.C.Connector.gives) (MayFail g.C.Connector.reaches g.C.Connector.failed) k c.args.sources.items e r
    × Wrote (g.W.Sink.text c.args.sink.now) (g.W.Sink.text done.new.sink) (report_text e.sources r) × IsAccounted k e r) IsMemoryOrSink in
    subst Done same (done.ensures.accountability logs complete (subst (λ (k : List ℕ). ProveAConflict k logs) (sym same) prove))
