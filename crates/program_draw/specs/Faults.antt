-- Why the program gives up, and what it leaves then.
use Rattle.std.specs.Prelude.{◌≡◌, ◌≢◌, ◌⊎◌, ◌<◌, ℕ, List, Option, Err, String, length, ⊤}
use Rattle.std.specs.List.{AllWithin, AllZip, HoldsAt}
use Rattle.std.specs.declared.alloc.Global.{Global}
use Rattle.base_streams.specs.Streams.{WrotePart}
use Rattle.blocks.specs.CommitteeReading.{committee_in}
use Rattle.blocks.specs.Committees.{IsCommittee}
use Rattle.blocks.specs.Headers.{Header}
use Rattle.log_format.specs.declared.status.Status.TheVariants.{Failed}
use Rattle.audit_evidence.specs.declared.refusal.EvidenceRefusal.TheVariants.{Collision as Colliding}
use Rattle.audit_evidence.specs.declared.source.SourceReport.{SourceReport}
use Rattle.parallel_verify.specs.Collections.{HaveCollision}
use Rattle.program_parts.specs.Writes.{CountsOutput}
use Rattle.program_parts.specs.declared.program_fault.ProgramFault.{ProgramFault}
use Rattle.program_parts.specs.declared.program_fault.ProgramFault.TheVariants.{Usage, Memory, File, Committee, Output, Own}
use Rattle.program_parts.specs.declared.source_fault.SourceFault.TheVariants.{Word, Collision}
use Rattle.program_draw.specs.Outputs.{IsLogOf, IsOutput}
use Rattle.program_draw.specs.Words.{AskForPicture, IsWordsFault}
use Rattle.program_draw.specs.declared.fault.DrawFault.{DrawFault}
use Rattle.program_draw.specs.declared.fault.DrawFault.TheVariants.{Sources, Word as Wrong}
use Rattle.program_draw.specs.declared.words.SourceFile.{SourceFile}

-- ---- over files

-- a report that may come of this file
abbrev pub IsReportOfFile : SourceFile → SourceReport → Type 0
IsReportOfFile s r = r.replica ≡ s.replica

-- of the files with these reports that at the path is the first whose reading failed
pub record IsFirstUnread (sources : List SourceFile) (reports : List SourceReport) (path : List ℕ) : Type 0 where
  pub place : ℕ
  pub within : place < length reports
  pub named : HoldsAt (λ s. s.path.now ≡ path) sources place
  pub failed : HoldsAt (λ r. r.status ≡ Failed) reports place
  pub before : AllWithin (λ r. r.status ≢ Failed) reports 0 place

abbrev pub IsUnread : List SourceFile → List ℕ → Type 0
IsUnread sources path =
    (reports : List SourceReport) × AllZip IsReportOfFile sources reports × IsFirstUnread sources reports path

-- two different headers in logs of these files have one id
abbrev pub ShowCollision : List ℕ → List SourceFile → Type 0
ShowCollision committee sources = (h : Header) × (k : Header) × HaveCollision IsLogOf committee sources (Colliding h k)

-- why these files show nothing under this committee
abbrev pub IsSourcesFault : List ℕ → List SourceFile → ProgramFault DrawFault → Type 0
IsSourcesFault committee sources Usage = ⊥
IsSourcesFault committee sources Memory = ⊤
IsSourcesFault committee sources (File path) = IsUnread sources path.now
IsSourcesFault committee sources (Committee r) = ⊥
IsSourcesFault committee sources Output = ⊥
IsSourcesFault committee sources (Own (Wrong word)) = ⊥
IsSourcesFault committee sources (Own (Sources (Word i))) = ⊥
IsSourcesFault committee sources (Own (Sources Collision)) = ShowCollision committee sources

-- why there is no picture of them under the committee of the file at this path
abbrev pub IsPictureFault : List ℕ → List SourceFile → ProgramFault DrawFault → Type 0
IsPictureFault path sources Usage = ⊥
IsPictureFault path sources Memory = ⊤
IsPictureFault path sources (File p) = (p.now ≡ path) ⊎ IsUnread sources p.now
IsPictureFault path sources (Committee r) = (bytes : List ℕ) × (committee_in bytes ≡ Err r)
IsPictureFault path sources Output = ⊥
IsPictureFault path sources (Own (Wrong word)) = ⊥
IsPictureFault path sources (Own (Sources (Word i))) = ⊥
IsPictureFault path sources (Own (Sources Collision)) = (committee : List ℕ) × IsCommittee committee × ShowCollision committee sources

-- ---- over words

-- why there is no picture of what they ask for
abbrev pub IsFaultOfPicture : List (String Global) → ProgramFault DrawFault → Type 0
IsFaultOfPicture words fault =
    (committee : List ℕ) × (sources : List SourceFile) × AskForPicture words committee sources × IsPictureFault committee sources fault

-- why the program gives up over them, but where a write failed
abbrev pub IsCause : List (String Global) → ProgramFault DrawFault → Type 0
IsCause words fault = IsWordsFault words fault ⊎ IsFaultOfPicture words fault

-- it gives up over the fault: the fault has its cause, and nothing was written but where a write failed
pub record GivesUp {W : Type 0} (words : List (String Global)) (fault : ProgramFault DrawFault) (text : W → Option (List ℕ)) (failed : W → ℕ) (out out' : W) : Type 0 where
  pub cause : fault ≢ Output → IsCause words fault × (out' ≡ out)
  pub cut_short : fault ≡ Output → (whole : List ℕ) × IsOutput words whole × WrotePart (text out) (text out') whole
  pub counted : CountsOutput fault (failed out) (failed out')
