use Rattle.std.proofs.Common.{◌≤◌, ◌+◌, List, get_or, length, take, sym, subst, arith}
use Rattle.std.proofs.lemmas.List.{take_all}
use Rattle.std.specs.List.{AllZip}
use Rattle.audit_evidence.specs.Evidence.{IsEvidenceRefusal, IsHeaderInEvidence, IsReportOf}
use Rattle.audit_evidence.specs.Logs.{ReceivedLog}
use Rattle.audit_evidence.specs.declared.source.SourceReport.{SourceReport}
use Rattle.audit_evidence.proofs.NamedVotes.{union_listed}
use Rattle.audit_evidence.proofs.Gatherings.{handed_on, zip_length, zip_more}
use Rattle.parallel_verify.specs.Parts.{HasReport, IsPartOn, Part}
use Rattle.parallel_verify.proofs.Joinings.{next_part, joined_more, report_more, joined_fault, no_log, union_of_logs}
use Rattle.parallel_verify.proofs.joining.join.Goals as goal

pub returns-in_err-add_part-clause-refused : goal.returns-in_err-add_part-clause-refused
returns-in_err-add_part-clause-refused g c =
    let committee = c.args.committee.now in
    let parts = c.args.parts.now in
    let a = c.in_ok-gathered.gathered in
    let b = c.loop-part.gathered in
    let i = c.loop-part.part-index in
    let e = c.in_err-add_part.field-0.0 in
    handed_on c.from_residual-in_err-add_part.result (λ x. (logs : List ReceivedLog) → AllZip (IsPartOn committee) logs parts → IsEvidenceRefusal (IsHeaderInEvidence committee logs) x) e c.from_residual-in_err-add_part.ensures.1
    (λ logs zip.
    let so_far = c.loop-part.invariant.grown logs zip in
    let x = next_part committee logs parts zip a b c.in_ok-gathered.ensures.committee i so_far c.part-item.result c.loop-part-test.true c.part-item.is in
    joined_fault committee logs parts zip a b c.in_ok-gathered.ensures.committee i so_far e c.in_ok-gathered.ensures.headers c.loop-part-test.true (c.in_err-add_part.ensures.err (get_or logs i no_log) x))

pub loop-part-preserved : goal.loop-part-preserved
loop-part-preserved g c =
    let committee = c.args.committee.now in
    let parts = c.args.parts.now in
    let a = c.in_ok-gathered.gathered in
    let b = c.loop-part.gathered in
    let d = c.add_part.new.gathered in
    let i = c.loop-part.part-index in
    let r = c.in_ok-add_part.field-0 in
    let under = c.in_ok-gathered.ensures.committee in
    let l = c.loop-part-test.true in
    record {
      grown = λ logs zip.
          let so_far = c.loop-part.invariant.grown logs zip in
          let x = next_part committee logs parts zip a b under i so_far c.part-item.result l c.part-item.is in
          joined_more committee logs parts zip a b under i so_far d r l (c.in_ok-add_part.ensures.ok (get_or logs i no_log) x);
      told = λ logs zip.
          let so_far = c.loop-part.invariant.grown logs zip in
          let x = next_part committee logs parts zip a b under i so_far c.part-item.result l c.part-item.is in
          subst (λ (rs : List SourceReport). AllZip IsReportOf (take (i + 1) logs) rs) (sym c.in_ok-put.ensures)
          (report_more committee logs parts zip a b under i so_far d c.loop-part.reports.items r l (c.loop-part.invariant.told logs zip) (c.in_ok-add_part.ensures.ok (get_or logs i no_log) x));
      reports =
          subst (λ (rs : List SourceReport). AllZip HasReport (take (i + 1) parts) rs) (sym c.in_ok-put.ensures)
          (zip_more HasReport parts c.loop-part.reports.items i c.part-item.result r l c.loop-part.invariant.reports
          (subst (λ (p : Part). HasReport p r) c.part-item.is c.in_ok-add_part.ensures.report));
    }

pub returns-clause-union : goal.returns-clause-union
returns-clause-union g c = λ logs zip.
    let committee = c.args.committee.now in
    let parts = c.args.parts.now in
    let i = c.loop-part.part-index in
    let l : length parts ≤ i = omega (arith, c.loop-part-test.false) in
    union_listed committee logs c.loop-part.gathered c.in_ok-in_order.field-0
    (union_of_logs committee logs parts c.in_ok-gathered.gathered c.loop-part.gathered i zip l c.in_ok-gathered.ensures.committee c.in_ok-gathered.ensures.headers
    c.in_ok-gathered.ensures.votes (c.loop-part.invariant.grown logs zip)) c.in_ok-in_order.ensures

pub returns-clause-told : goal.returns-clause-told
returns-clause-told g c = λ logs zip.
    let committee = c.args.committee.now in
    let parts = c.args.parts.now in
    let i = c.loop-part.part-index in
    let size = zip_length (IsPartOn committee) logs parts zip in
    let l : length parts ≤ i = omega (arith, c.loop-part-test.false) in
    subst (λ (ls : List ReceivedLog). AllZip IsReportOf ls c.loop-part.reports.items) (take_all i logs (omega (arith, size, l))) (c.loop-part.invariant.told logs zip)

pub returns-clause-reports : goal.returns-clause-reports
returns-clause-reports g c =
    let parts = c.args.parts.now in
    let i = c.loop-part.part-index in
    let l : length parts ≤ i = omega (arith, c.loop-part-test.false) in
    subst (λ (ps : List Part). AllZip HasReport ps c.loop-part.reports.items) (take_all i parts l) c.loop-part.invariant.reports
