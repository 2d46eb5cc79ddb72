-- What the program prints.
use Rattle.std.specs.Prelude.{◌≡◌, ◌≢◌, ℕ, List, [], ◌∷◌, String, codes}
use Rattle.std.specs.declared.alloc.Global.{Global}
use Rattle.blocks.specs.Committees.{IsCommittee}
use Rattle.log_format.specs.declared.status.Status.TheVariants.{Failed}
use Rattle.audit_evidence.specs.Evidence.{Evidence, IsEvidence}
use Rattle.audit_evidence.specs.Logs.{ReceivedLog}
use Rattle.parallel_verify.specs.Collections.{IsEvidenceOfSources}
use Rattle.culprit_search.specs.Reports.{IsAudit, Report}
use Rattle.audit_picture.specs.Findings.{findings_of}
use Rattle.audit_picture.specs.Pictures.{Drawn, IsPicture}
use Rattle.audit_picture.specs.Drawings.{IsDrawn}
use Rattle.program_draw.specs.Words.{AskForPicture}
use Rattle.program_draw.specs.declared.words.SourceFile.{SourceFile}

abbrev pub usage_line : List ℕ
usage_line = codes "hs_draw COMMITTEE R=file:PATH..\n"

-- ---- what files show

-- a log that may come of this file; no contract says what a file holds
abbrev pub IsLogOf : SourceFile → ReceivedLog → Type 0
IsLogOf s l = l.replica ≡ s.replica

-- .. whose reading did not fail
pub record IsReadLogOf (s : SourceFile) (l : ReceivedLog) : Type 0 where
  pub of : IsLogOf s l
  pub read : l.status ≢ Failed

-- under a committee the evidence of logs, one of each file, whose reading did not fail; it is of good votes and of no two
-- headers with one id
pub record IsShown (committee : List ℕ) (sources : List SourceFile) (e : Evidence) : Type 0 where
  pub under : IsCommittee committee
  pub evidence : IsEvidenceOfSources IsReadLogOf committee sources e
  pub sound : IsEvidence e

-- ---- what is printed

-- the picture of the audit of what these files show under some committee
pub record IsPictureOf (sources : List SourceFile) (text : List ℕ) : Type 0 where
  pub committee : List ℕ
  pub evidence : Evidence
  pub shown : IsShown committee sources evidence
  pub report : Report
  pub audit : IsAudit evidence report
  pub drawn : Drawn
  pub is_drawn : IsDrawn evidence report drawn
  pub picture : IsPicture (findings_of committee report) drawn text

-- with no words how the program is called, else the picture that they ask for
abbrev pub IsOutput : List (String Global) → List ℕ → Type 0
IsOutput [] text = text ≡ usage_line
IsOutput (word ∷ words) text =
    (committee : List ℕ) × (sources : List SourceFile) × AskForPicture (word ∷ words) committee sources × IsPictureOf sources text
