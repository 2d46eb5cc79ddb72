use Rattle.std.proofs.Common.{List, ℕ, subst}
use Rattle.std.specs.List.{All}
use Rattle.verdict_format.specs.Proofs.{IsProof}
use Rattle.parallel_verify.specs.Collections.{MayGive}
use Rattle.parallel_verify.specs.Readings.{sources_of}
use Rattle.culprit_search.specs.Reports.{AreMoreThanAThird}
use Rattle.audit_run.specs.Runs.{IsCompleteSource}
use Rattle.audit_run.proofs.Accounts.{cut_of_source, reading_accounted, refused_accounted}
use Rattle.audit_run.proofs.run.audit_judged.Goals as goal

pub returns-in_err-reading-clause-accountability : goal.returns-in_err-reading-clause-accountability
returns-in_err-reading-clause-accountability g c logs complete prove =
    let gives = g.C.Connector.gives in
    let refused = c.in_err-reading.ensures in
    refused_accounted (MayGive gives) (IsCompleteSource gives) (cut_of_source gives c.a_complete_source_gives_its_log.ensures) c.args.committee.now (sources_of c.args.sources.items) logs complete prove _ c.from_residual.result c.in_err-reading.field-0.0
    refused.committee c.from_residual.ensures.1 refused.refused

pub returns-in-Ok-clause-accepted : goal.returns-in-Ok-clause-accepted
returns-in-Ok-clause-accepted g c =
    subst (λ (k : List ℕ). All (IsProof k) c.in-Ok.report.verdicts) c.in_ok-reading.ensures.ok.evidence.under c.in-Ok.ensures.accepted

pub returns-in-Ok-clause-accountability : goal.returns-in-Ok-clause-accountability
returns-in-Ok-clause-accountability g c logs complete prove =
    let gives = g.C.Connector.gives in
    let reading = c.in_ok-reading.ensures.ok in
    let done = c.in-Ok.ensures in
    reading_accounted (MayGive gives) (IsCompleteSource gives) (cut_of_source gives c.a_complete_source_gives_its_log.ensures) c.args.committee.now (sources_of c.args.sources.items) logs complete prove reading.logs reading.given _ c.in-Ok.report reading.evidence
    done.audit done.more_than_a_third done.accepted
