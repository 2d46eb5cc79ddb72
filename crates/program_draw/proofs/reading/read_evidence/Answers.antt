use Rattle.std.proofs.Common.{◌≢◌, ◌∙◌, List, length, refl, ap, subst}
use Rattle.std.specs.List.{All, AllZip}
use Rattle.std.proofs.lemmas.Slice.Zip.{AllZip-long}
use Rattle.log_format.specs.declared.status.Status.TheVariants.{Failed}
use Rattle.audit_evidence.specs.Evidence.{IsEvidence}
use Rattle.audit_evidence.specs.declared.source.SourceReport.{SourceReport}
use Rattle.program_draw.specs.Faults.{IsFirstUnread, IsReportOfFile}
use Rattle.program_draw.specs.Outputs.{IsLogOf}
use Rattle.program_draw.proofs.Sources.{logs_of, read_logs, reports_of}
use Rattle.program_draw.proofs.reading.read_evidence.Goals as goal

pub first_failed-requires : goal.first_failed-requires
first_failed-requires g c =
    let words = c.args.words.now in
    let e = c.in-Ok.evidence in
    let ok = c.in-Ok.ensures.ok in
    let logs : AllZip IsLogOf words ok.logs = logs_of _ words c.in_ok-sources.sources.items ok.logs c.in_ok-sources.ensures.replicas ok.given in
    ap length c.sources.ensures ∙ AllZip-long IsReportOfFile words e.sources (reports_of words ok.logs e.sources logs ok.evidence.reports)

pub returns-in-Some-clause-refused : goal.returns-in-Some-clause-refused
returns-in-Some-clause-refused g c =
    let words = c.args.words.now in
    let e = c.in-Ok.evidence in
    let ok = c.in-Ok.ensures.ok in
    let logs : AllZip IsLogOf words ok.logs = logs_of _ words c.in_ok-sources.sources.items ok.logs c.in_ok-sources.ensures.replicas ok.given in (
      e.sources,
      reports_of words ok.logs e.sources logs ok.evidence.reports,
      subst (λ (rs : List SourceReport). IsFirstUnread words rs c.in-Some.path.now) c.sources.ensures c.in-Some.ensures.found,
    )

pub returns-in-Ok-clause-shown : goal.returns-in-Ok-clause-shown
returns-in-Ok-clause-shown g c =
    let words = c.args.words.now in
    let e = c.in-Ok.evidence in
    let ok = c.in-Ok.ensures.ok in
    let logs : AllZip IsLogOf words ok.logs = logs_of _ words c.in_ok-sources.sources.items ok.logs c.in_ok-sources.ensures.replicas ok.given in
    let read : All (λ r. r.status ≢ Failed) e.sources =
    subst (λ (rs : List SourceReport). All (λ r. r.status ≢ Failed) rs) c.sources.ensures (c.in-None.ensures.none refl) in
    record {
      under = c.requires;
      evidence = record { logs = ok.logs; given = read_logs words ok.logs e.sources logs ok.evidence.reports read; evidence = ok.evidence };
      sound = subst IsEvidence c.evidence.view_is c.evidence.invariant;
    }

pub returns-clause-refused : goal.returns-clause-refused
returns-clause-refused g c =
    let words = c.args.words.now in
    let refused = rw c.in-Err-Collision.field-0-is at c.in-Err-Collision.ensures.refused in (
      c.in-Err-Collision.field-0-0,
      c.in-Err-Collision.field-0-1,
      record {
        logs = refused.logs;
        given = logs_of _ words c.in_ok-sources.sources.items refused.logs c.in_ok-sources.ensures.replicas refused.given;
        collision = refused.collision;
      },
    )
