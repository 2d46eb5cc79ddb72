-- What files show.
use Rattle.std.proofs.Common.{◌≡◌, ◌≢◌, ◌∙◌, ℕ, List, [], ◌∷◌, suc, arith}
use Rattle.std.specs.List.{All, AllZip}
use Rattle.log_format.specs.declared.status.Status.TheVariants.{Failed}
use Rattle.log_transfer.specs.Connections.{Connection}
use Rattle.audit_evidence.specs.Evidence.{IsReportOf}
use Rattle.audit_evidence.specs.Logs.{ReceivedLog}
use Rattle.audit_evidence.specs.declared.source.SourceReport.{SourceReport}
use Rattle.parallel_verify.specs.Collections.{MayGive}
use Rattle.parallel_verify.specs.declared.source.Source.{Source}
use Rattle.program_draw.specs.Faults.{IsReportOfFile}
use Rattle.program_draw.specs.Outputs.{IsLogOf, IsReadLogOf}
use Rattle.program_draw.specs.declared.words.SourceFile.{SourceFile}
use Rattle.program_draw.proofs.Zips.{zip_through}

-- the source of a file
abbrev pub IsSourceOf : {C : Type 0} → SourceFile → Source C → Type 0
IsSourceOf w s = s.replica ≡ w.replica

pub logs_of : {C : Type 0} (gives : C → ℕ → ℕ → ℕ → Connection → Type 0) (files : List SourceFile) (sources : List (Source C)) (logs : List ReceivedLog)
    → AllZip IsSourceOf files sources → AllZip (MayGive gives) sources logs → AllZip IsLogOf files logs
logs_of gives files sources logs of given = zip_through IsSourceOf (MayGive gives) IsLogOf (λ w s l same may. may.of ∙ same) files sources logs of given

pub reports_of : (files : List SourceFile) (logs : List ReceivedLog) (reports : List SourceReport) → AllZip IsLogOf files logs → AllZip IsReportOf logs reports
    → AllZip IsReportOfFile files reports
reports_of files logs reports of are = zip_through IsLogOf IsReportOf IsReportOfFile (λ w l r same is. is.replica ∙ same) files logs reports of are

-- no reading failed where no report says so
pub read_logs : (files : List SourceFile) (logs : List ReceivedLog) (reports : List SourceReport) → AllZip IsLogOf files logs → AllZip IsReportOf logs reports
    → All (λ r. r.status ≢ Failed) reports → AllZip IsReadLogOf files logs
read_logs [] [] reports of are read = tt
read_logs [] (l ∷ logs) reports of are read = absurd of
read_logs (w ∷ files) [] reports of are read = absurd of
read_logs (w ∷ files) (l ∷ logs) [] of are read = absurd are
read_logs (w ∷ files) (l ∷ logs) (r ∷ reports) of are read = (
  record { of = of.0; read = λ failed. read 0 r (omega arith) (are.0.status ∙ failed) },
  read_logs files logs reports of.1 are.1 (λ k d within. read (suc k) d (omega arith)),
)
