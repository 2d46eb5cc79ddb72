use Rattle.std.proofs.Common.{◌++◌, ℕ, List, subst}
use Rattle.program_tool.specs.AuditFiles.{AreReportsOn, verdict_files}
use Rattle.program_tool.specs.StoredFiles.{Stored, StoredFile}
use Rattle.program_tool.proofs.Filings.{both_stored, on_ok}
use Rattle.program_tool.proofs.audit.finish.Goals as goal

pub returns-clause-stored : goal.returns-clause-stored
returns-clause-stored g c =
    let a = c.args in
    on_ok c.store_report.result _ _ (λ reports.
    subst (λ (status : ℕ). (x : List StoredFile) × Stored (g.D.StoreFiles.stored a.extras.now.files) (g.D.StoreFiles.stored c.store_report.new.files) (verdict_files a.folder.now a.found.now.report.verdicts ++ x)
    × AreReportsOn a.folder.now a.words.now a.wishes.json status a.committee.now a.found.now.judged.items a.found.now.report x) c.status.ensures
    (both_stored a.folder.now a.words.now a.wishes.json c.status.result a.committee.now a.found.now.judged.items a.found.now.report a.found.now.report.verdicts _ _ _ c.in_ok-store_verdicts.ensures.stored reports)) c.store_report.ensures.stored
