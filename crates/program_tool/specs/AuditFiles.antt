-- The files that an audit stores: the verdicts, and if it is asked for a report for programs.
use Rattle.std.specs.Borrow.{Bor}
use Rattle.std.specs.Prelude.{◌≡◌, ◌⊎◌, ◌++◌, ◌∷◌, [], ℕ, List, Err, None, Ok, Option, Result, Some, map, ⊤}
use Rattle.std.specs.List.{AllZip}
use Rattle.serde_json.specs.Written.{compact_text}
use Rattle.blocks.specs.Genesis.{chain_id_of}
use Rattle.blocks.specs.Weights.{total_of}
use Rattle.audit_evidence.specs.Logs.{ReceivedLog}
use Rattle.parallel_verify.specs.JudgedSources.{IsJudged}
use Rattle.parallel_verify.specs.declared.judging.Judgement.{Judgement}
use Rattle.verdict_format.specs.Verdicts.{replica_in}
use Rattle.culprit_search.specs.Reports.{Report}
use Rattle.audit_run.specs.Data.{report_data, verdict_path}
use Rattle.audit_run.specs.declared.told.AuditTold.{AuditTold}
use Rattle.audit_run.specs.declared.told.SourceTold.{SourceTold}
use Rattle.program_parts.specs.declared.program_fault.ProgramFault.{ProgramFault}
use Rattle.program_parts.specs.declared.program_fault.ProgramFault.TheVariants.{Memory, Own}
use Rattle.program_tool.specs.StoredFiles.{Stored, StoredFile, file_at}
use Rattle.program_tool.specs.Told.{AreTold}
use Rattle.program_tool.specs.declared.fault.FolderFile.{FolderFile}
use Rattle.program_tool.specs.declared.fault.FolderFile.TheVariants.{NewVerdict, Verdict}
use Rattle.program_tool.specs.declared.fault.ToolFault.{ToolFault}
use Rattle.program_tool.specs.declared.fault.ToolFault.TheVariants.{FileIn}

-- ---- verdicts

-- the bytes of a verdict, under the name of whom it accuses
abbrev pub verdict_file : List ℕ → List ℕ → StoredFile
verdict_file folder verdict = file_at (verdict_path folder (replica_in verdict)) verdict

abbrev pub verdict_files : List ℕ → List (List ℕ) → List StoredFile
verdict_files folder verdicts = map (verdict_file folder) verdicts

-- why a result is none
abbrev pub fault_in : {A E : Type 0} → Result A E → Option E
fault_in (Ok a) = None
fault_in (Err fault) = Some fault

-- the first of two faults, if there is one
abbrev pub first_of : {E : Type 0} → Option E → Option E → Option E
first_of None second = second
first_of (Some fault) second = Some fault

-- which file it was: the verdict's own, or the one that has its bytes until they are whole
abbrev pub IsFileOf : List ℕ → FolderFile → Type 0
IsFileOf verdict file = (file ≡ Verdict (replica_in verdict)) ⊎ (file ≡ NewVerdict (replica_in verdict))

-- memory was refused for a verdict, or it can't be stored in the folder
abbrev pub IsVerdictFault : (folder verdict : List ℕ) → ProgramFault ToolFault → Type 0
IsVerdictFault folder verdict Memory = ⊤
IsVerdictFault folder verdict (Own (FileIn path file)) = (path.now ≡ folder) × IsFileOf verdict file
IsVerdictFault folder verdict fault = ⊥

-- a verdict was stored, or was not, for this fault
abbrev pub IsTried : (folder verdict : List ℕ) → (before after : Option (List StoredFile)) → Option (ProgramFault ToolFault) → Type 0
IsTried folder verdict before after None = Stored before after (verdict_file folder verdict ∷ [])
IsTried folder verdict before after (Some fault) = Stored before after [] × IsVerdictFault folder verdict fault

-- each was tried, one after the other, and the fault is the first
abbrev pub AreTried : List ℕ → List (List ℕ) → (before after : Option (List StoredFile)) → Option (ProgramFault ToolFault) → Type 0
AreTried folder [] before after fault = Stored before after [] × (fault ≡ None)
AreTried folder (v ∷ vs) before after fault =
    (between : Option (List StoredFile)) × (first : Option (ProgramFault ToolFault)) × (second : Option (ProgramFault ToolFault))
    × IsTried folder v before between first × AreTried folder vs between after second × (fault ≡ first_of first second)

-- ---- reports for programs

-- the bytes of the report of an audit that ends with this status, on what was found of its sources, with the words that name them
pub record IsReportOn (folder : List ℕ) (words : List (Bor (List ℕ))) (status : ℕ) (committee : List ℕ) (judged : List Judgement) (r : Report) (bytes : List ℕ) : Type 0 where
  pub told : AuditTold
  pub status_is : told.status ≡ status
  pub chain : told.chain ≡ chain_id_of committee
  pub total : told.total ≡ total_of committee
  pub folder_is : told.folder.now ≡ folder
  pub sources : List SourceTold
  pub each : AreTold words judged sources
  pub text : bytes ≡ compact_text (report_data told sources r) ++ 10 ∷ []

-- one at the path, if there is one
abbrev pub AreReportsOn : List ℕ → List (Bor (List ℕ)) → Option (Bor (List ℕ)) → ℕ → List ℕ → List Judgement → Report → List StoredFile → Type 0
AreReportsOn folder words None status committee judged r files = files ≡ []
AreReportsOn folder words (Some path) status committee judged r files =
    (bytes : List ℕ) × IsReportOn folder words status committee judged r bytes × (files ≡ file_at path.now bytes ∷ [])

-- .. on logs
abbrev pub AreReportsOf : List ℕ → List (Bor (List ℕ)) → Option (Bor (List ℕ)) → ℕ → List ℕ → List ReceivedLog → Report → List StoredFile → Type 0
AreReportsOf folder words None status committee logs r files = files ≡ []
AreReportsOf folder words (Some path) status committee logs r files =
    (judged : List Judgement) × AllZip (IsJudged committee) logs judged × AreReportsOn folder words (Some path) status committee judged r files

-- ---- all of them

-- the verdicts in the folder, one after the other, and after them the report, if there is to be one
abbrev pub HasStored : (List StoredFile → Type 0) → List ℕ → List (Bor (List ℕ)) → Option (Bor (List ℕ)) → ℕ → List ℕ → List ReceivedLog → Report → Type 0
HasStored stored folder words json status committee logs r =
    (reports : List StoredFile) × stored (verdict_files folder r.verdicts ++ reports) × AreReportsOf folder words json status committee logs r reports
