-- What the program prints, and its status.
use Rattle.std.specs.Prelude.{◌≡◌, ◌++◌, ℕ, List, [], ◌∷◌, IsSome, Option, String, codes}
use Rattle.std.specs.List.{All}
use Rattle.std.specs.declared.alloc.Global.{Global}
use Rattle.blocks.specs.Committees.{IsCommittee}
use Rattle.log_transfer.specs.declared.connector.Connector.{Ghosts}
use Rattle.log_transfer.specs.declared.source_connector.ServerOrFile.{ServerOrFile}
use Rattle.verdict_format.specs.Proofs.{IsProof}
use Rattle.audit_evidence.specs.Evidence.{Evidence}
use Rattle.audit_evidence.specs.declared.source.SourceReport.{SourceReport}
use Rattle.culprit_search.specs.Reports.{AreMoreThanAThird, IsAudit, Report}
use Rattle.culprit_search.specs.ReportText.{report_text}
use Rattle.program_parts.specs.declared.words.SourceWord.{SourceWord}
use Rattle.program_follow.specs.Followings.{IsFollowing, following_lines, status_of}
use Rattle.handover_steps.specs.Successors.{IsSuccessorFile}
use Rattle.handover_renewals.specs.Renewals.{Renewal}
use Rattle.program_follow.specs.RenewalLines.{AreLinesOn, IsReadAt}
use Rattle.program_follow.specs.Sources.{IsShown}
use Rattle.program_follow.specs.Words.{AskForStep, OutPaths}
use Rattle.program_follow.specs.declared.following.Following.{Following}

abbrev pub usage_line : List ℕ
usage_line = codes "hs_follow OLD NEW SOURCE.. [--renewal FILE] [--proof OUT] [--light OUT]\nhs_follow C0 --lineage DIR [--fetch SOURCE..]\n"

-- two committees, of which the second may come after the first: no key of it is one of the first, but in slots that it may keep
pub record MayComeNext (old new : List ℕ) : Type 0 where
  pub old_is : IsCommittee old
  pub successor : IsSuccessorFile [] old new

-- the report of the audit of evidence, whose verdicts are proofs, and which accuses more than a third where commits conflict
pub record IsReportOf (e : Evidence) (r : Report) : Type 0 where
  pub audit : IsAudit e r
  pub accepted : All (IsProof e.committee) r.verdicts
  pub more_than_a_third : IsSome r.conflict → AreMoreThanAThird e.committee r

-- the lines of a report, the lines that say what follows, and those on a renewal
abbrev pub step_text : List SourceReport → Report → Following → List ℕ → List ℕ
step_text sources r f renewal = report_text sources r ++ (following_lines f r.commits ++ renewal)

-- the status and the text of a step: the report on what these sources show under the old committee, what that says of the new one, some
-- two committees, and, if there is a path of one, what some renewal says of that
pub record ComesTo {S F : Type 0} (connector : Ghosts (ServerOrFile S F)) (path : Option (List ℕ)) (words : List SourceWord) (status : ℕ) (text : List ℕ) : Type 0 where
  pub old : List ℕ
  pub new : List ℕ
  pub next : MayComeNext old new
  pub evidence : Evidence
  pub shown : IsShown connector old words evidence
  pub report : Report
  pub is_report : IsReportOf evidence report
  pub following : Following
  pub is_following : IsFollowing evidence new following
  pub renewal : Option Renewal
  pub read : IsReadAt path renewal
  pub judged : List ℕ
  pub are_judged : AreLinesOn old new renewal judged
  pub told : text ≡ step_text evidence.sources report following judged
  pub ends : status ≡ status_of following

-- with no words how the program is called, else the step that they ask for
abbrev pub IsOutput : {S F : Type 0} → Ghosts (ServerOrFile S F) → List (String Global) → ℕ → List ℕ → Type 0
IsOutput connector [] status text = (status ≡ 0) × (text ≡ usage_line)
IsOutput connector (word ∷ words) status text =
    (old : List ℕ) × (new : List ℕ) × (sources : List SourceWord) × (renewal : Option (List ℕ)) × (outs : OutPaths) × AskForStep (word ∷ words) old new sources renewal outs × ComesTo connector renewal sources status text
