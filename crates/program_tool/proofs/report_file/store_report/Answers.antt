use Rattle.std.proofs.Common.{ℕ, List, subst, sym}
use Rattle.program_tool.specs.AuditFiles.{IsReportOn}
use Rattle.program_tool.proofs.Filings.{on_ok, report_stored}
use Rattle.program_tool.proofs.report_file.store_report.Goals as goal

pub returns-clause-stored : goal.returns-clause-stored
returns-clause-stored g c =
    let a = c.args in
    on_ok c.store_at.result _ _ (λ stored. report_stored a.folder.now a.words.now a.wishes.json c.in-Some.path a.status a.committee.now a.found.now.judged.items a.found.now.report _ _ c.as_bytes.result.now c.in-Some.is
    (subst (λ (bytes : List ℕ). IsReportOn a.folder.now a.words.now a.status a.committee.now a.found.now.judged.items a.found.now.report bytes) (sym c.as_bytes.ensures.value) c.in_ok-text.ensures) stored) c.store_at.ensures.ok
