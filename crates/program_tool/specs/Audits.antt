-- What an audit at the tool prints.
use Rattle.std.specs.Borrow.{Bor}
use Rattle.std.specs.Prelude.{◌≡◌, ◌≢◌, [], ℕ, IsSome, List, Option}
use Rattle.std.specs.List.{All, AllZip}
use Rattle.base_streams.specs.Streams.{Wrote}
use Rattle.log_transfer.specs.declared.connector.Connector.{Ghosts}
use Rattle.log_transfer.specs.declared.source_connector.ServerOrFile.{ServerOrFile}
use Rattle.verdict_format.specs.Proofs.{IsProof}
use Rattle.audit_evidence.specs.Evidence.{Evidence}
use Rattle.audit_evidence.specs.Logs.{ReceivedLog}
use Rattle.parallel_verify.specs.declared.judging.Judgement.{Judgement}
use Rattle.parallel_verify.specs.Collections.{MayFail, MayGive}
use Rattle.parallel_verify.specs.declared.source.Source.{Source}
use Rattle.culprit_search.specs.Reports.{AreMoreThanAThird, Report}
use Rattle.culprit_search.specs.ReportText.{report_text}
use Rattle.audit_run.specs.Runs.{IsAccounted, IsAuditRun, IsCompleteSource, ProveAConflict}
use Rattle.program_parts.specs.declared.words.SourceWord.{SourceWord}
use Rattle.program_words.specs.declared.command.Strictness.{Strictness}
use Rattle.program_tool.specs.OpenedSources.{AreOpenedAs, SpellSources}
use Rattle.program_tool.specs.Strict.{AreEnough, AreTooFew, FallsShort, HoldsUp}
use Rattle.program_tool.specs.declared.audit.AuditEnd.{AuditEnd}
use Rattle.program_tool.specs.declared.audit.AuditEnd.TheVariants.{NoCulprit, TooFewSound, Culprits}

-- what may be said of the logs that were read, and of the report, under a committee
abbrev pub Said : Type 1
Said = List ℕ → List ReceivedLog → Report → Type 0

abbrev pub Both : Said → Said → Said
Both first second committee logs r = first committee logs r × second committee logs r

-- .. of the logs alone
abbrev pub Of : (List ℕ → List ReceivedLog → Type 0) → Said
Of are committee logs r = are committee logs

-- the lines of the audit of one reading of each of these sources, in their order, under a committee, of which this is said; with
-- these verdicts, each a proof, which accuse more than a third if there is a conflict. If no source keeps anything of its log back, and
-- the logs prove a conflict, a source is reported as failed, or replicas of more than a third of the weight are accused
pub record IsAuditPrinted {C : Type 0} (connector : Ghosts C) (Are : Said) (committee : List ℕ) (sources : List (Source C)) (before after : Option (List ℕ)) (verdicts : List (List ℕ)) : Type 0 where
  pub evidence : Evidence
  pub report : Report
  pub run : IsAuditRun (MayGive connector.gives) (MayFail connector.reaches connector.failed) committee sources evidence report
  pub accountability : (logs : List ReceivedLog) → AllZip (IsCompleteSource connector.gives) sources logs → ProveAConflict committee logs → IsAccounted committee evidence report
  pub are : Are committee run.evidence.logs report
  pub with : report.verdicts ≡ verdicts
  pub proofs : All (IsProof committee) verdicts
  pub more_than_a_third : IsSome report.conflict → AreMoreThanAThird committee report
  pub wrote : Wrote before after (report_text evidence.sources report)

-- .. of sources that were opened as these words spell, each with so many tries or as many as it may have
pub record IsAuditOfWords {S F : Type 0} (connector : Ghosts (ServerOrFile S F)) (Are : Said) (words : List (Bor (List ℕ))) (tries : ℕ) (before after : Option (List ℕ)) (verdicts : List (List ℕ)) : Type 0 where
  pub committee : List ℕ
  pub named : List SourceWord
  pub spelled : SpellSources words named
  pub sources : List (Source (ServerOrFile S F))
  pub opened : AreOpenedAs tries named sources
  pub printed : IsAuditPrinted connector Are committee sources before after verdicts

-- .. with some verdicts, and files for them
unfoldable pub AreCulpritsPrinted : {S F : Type 0} → Ghosts (ServerOrFile S F) → List (Bor (List ℕ)) → ℕ → Option (List ℕ) → Option (List ℕ) → (ℕ → Said) → Type 0
AreCulpritsPrinted connector words tries before after Filed = (verdicts : List (List ℕ)) × (verdicts ≢ []) × IsAuditOfWords connector (Filed 3) words tries before after verdicts

-- .. with none, and logs that are enough, or too few
unfoldable pub IsEnoughPrinted : {S F : Type 0} → Ghosts (ServerOrFile S F) → Strictness → List (Bor (List ℕ)) → ℕ → Option (List ℕ) → Option (List ℕ) → (ℕ → Said) → Type 0
IsEnoughPrinted connector strictness words tries before after Filed = IsAuditOfWords connector (Both (Of (AreEnough strictness)) (Filed 0)) words tries before after []

unfoldable pub IsTooLittlePrinted : {S F : Type 0} → Ghosts (ServerOrFile S F) → Strictness → List (Bor (List ℕ)) → ℕ → Option (List ℕ) → Option (List ℕ) → (ℕ → Said) → Type 0
IsTooLittlePrinted connector strictness words tries before after Filed = IsAuditOfWords connector (Both (Of (AreTooFew strictness)) (Filed 4)) words tries before after []

-- how an audit of these sources ends: with verdicts, with none and logs that are enough, or with none and logs that are too few; and
-- with which files, by its status
abbrev pub EndsAs : {C : Type 0} → Ghosts C → Strictness → List ℕ → List (Source C) → Option (List ℕ) → Option (List ℕ) → (ℕ → Said) → AuditEnd → Type 0
EndsAs connector strictness committee sources before after Filed Culprits = (verdicts : List (List ℕ)) × (verdicts ≢ []) × IsAuditPrinted connector (Filed 3) committee sources before after verdicts
EndsAs connector strictness committee sources before after Filed NoCulprit = IsAuditPrinted connector (Both (Of (AreEnough strictness)) (Filed 0)) committee sources before after []
EndsAs connector strictness committee sources before after Filed TooFewSound = IsAuditPrinted connector (Both (Of (AreTooFew strictness)) (Filed 4)) committee sources before after []

-- .. by what was found of the logs, and the verdicts
abbrev pub IsEndOf : Strictness → List ℕ → List Judgement → List (List ℕ) → AuditEnd → Type 0
IsEndOf strictness committee judged verdicts Culprits = verdicts ≢ []
IsEndOf strictness committee judged verdicts NoCulprit = (verdicts ≡ []) × HoldsUp strictness committee judged
IsEndOf strictness committee judged verdicts TooFewSound = (verdicts ≡ []) × FallsShort strictness committee judged

-- the exit status
abbrev pub status_of : AuditEnd → ℕ
status_of NoCulprit = 0
status_of TooFewSound = 4
status_of Culprits = 3
