-- What a run of the audit gives, from the sources to the lines. docs/DEFINITIONS.md, "Reports".
use Rattle.std.specs.Prelude.{◌≡◌, ◌≢◌, ◌⊎◌, List, Err, IfErr, IfOk, IsErrOf, IsSome, OnOk, Option, Result, ⊤, ℕ}
use Rattle.std.specs.List.{All, AllPairs, AllZip, Contains}
use Rattle.base_streams.specs.Counting.{one_more}
use Rattle.base_streams.specs.Streams.{Wrote, WrotePart}
use Rattle.blocks.specs.Chains.{Conflict, NoCollision}
use Rattle.blocks.specs.CommitteeReading.{committee_in}
use Rattle.blocks.specs.Committees.{IsCommittee}
use Rattle.blocks.specs.Headers.{Header}
use Rattle.blocks.specs.Weights.{committee_of}
use Rattle.log_format.specs.declared.status.Status.TheVariants.{Failed}
use Rattle.log_transfer.specs.Complete.{AreLogPayloads, IsCompleteFor}
use Rattle.log_transfer.specs.Connections.{Connection}
use Rattle.log_transfer.specs.declared.connector.Connector.{Ghosts}
use Rattle.verdict_format.specs.Proofs.{IsProof}
use Rattle.audit_evidence.specs.Evidence.{Evidence, IsEvidence, IsEvidenceOf}
use Rattle.audit_evidence.specs.Logs.{ReceivedLog}
use Rattle.audit_evidence.specs.declared.refusal.EvidenceRefusal.TheVariants.{Collision as Colliding}
use Rattle.audit_evidence.specs.declared.source.SourceReport.{SourceReport}
use Rattle.parallel_verify.specs.Collections.{HaveCollision, IsEvidenceOfSources}
use Rattle.parallel_verify.specs.Readings.{IsReadingOf, Tells}
use Rattle.parallel_verify.specs.declared.judging.Judging.{Judging}
use Rattle.parallel_verify.specs.declared.source.Observed.{Observed}
use Rattle.parallel_verify.specs.declared.source.Source.{Source}
use Rattle.audit_commits.specs.Commits.{IsProvedCommit}
use Rattle.culprit_search.specs.Reports.{AreMoreThanAThird, IsAudit, Report, accused_weight}
use Rattle.culprit_search.specs.ReportText.{report_text}
use Rattle.culprit_search.specs.Verdicts.{IsOnLowerReplica}
use Rattle.audit_run.specs.declared.run.Findings.{Findings}
use Rattle.audit_run.specs.declared.run_error.RunError.{RunError}
use Rattle.audit_run.specs.declared.run_error.RunError.TheVariants.{Memory, Committee, Collision, Sink}

-- under a committee the evidence of logs that the sources give, of good votes and of no two headers with one id, each
-- source with a cause where it failed, and its audit
pub record IsAuditRun {S : Type 0} (Gives : S → ReceivedLog → Type 0) (Caused : S → SourceReport → Type 0) (committee : List ℕ) (sources : List S) (e : Evidence) (r : Report) : Type 0 where
  pub under : IsCommittee committee
  pub evidence : IsEvidenceOfSources Gives committee sources e
  pub sound : IsEvidence e
  pub caused : AllZip Caused sources e.sources
  pub audit : IsAudit e r

-- the same of one reading of sources that were observed, with what was found of each of its logs, if they were to be judged, and what
-- each observer was told of
pub record IsJudgedRun {C O : Type 0} (connector : Ghosts C) (told : Tells O) (committee : List ℕ) (judging : Judging) (sources : List (Observed C O)) (a : Findings) (after : List O) : Type 0 where
  pub under : IsCommittee committee
  pub reading : IsReadingOf connector told committee judging sources a.evidence a.judged.items after
  pub sound : IsEvidence a.evidence
  pub audit : IsAudit a.evidence a.report

-- why there is no report: the bytes are refused as a committee, or two different headers in logs that the sources give
-- have one id
abbrev pub IsRunRefusal : {S : Type 0} → (S → ReceivedLog → Type 0) → List ℕ → List S → RunError → Type 0
IsRunRefusal Gives committee sources Memory = ⊤
IsRunRefusal Gives committee sources (Committee refusal) = committee_in committee ≡ Err refusal
IsRunRefusal Gives committee sources (Collision h k) = IsCommittee committee × HaveCollision Gives committee sources (Colliding h k)
IsRunRefusal Gives committee sources Sink = IsCommittee committee

-- what a run answers and leaves of its sink, where `run` says what evidence and report it may come to
pub record IsRunAnswer {W : Type 0} (run : Evidence → Report → Type 0) (refusal : RunError → Type 0) (committee : List ℕ) (text : W → Option (List ℕ)) (failed : W → ℕ) (old new : W) (result : Result Report RunError) : Type 0 where
  pub ok : IfOk result (λ r. (e : Evidence) × run e r × Wrote (text old) (text new) (report_text e.sources r))
  pub accepted : IfOk result (λ r. All (IsProof committee) r.verdicts)
  pub more_than_a_third : IfOk result (λ r. IsSome r.conflict → AreMoreThanAThird committee r)
  pub no_failure : OnOk result (failed new ≡ failed old)
  pub refused : IfErr result refusal
  pub unwritten : IfErr result (λ e. e ≢ Sink → new ≡ old)
  pub sink : IsErrOf result Sink → (e : Evidence) × (r : Report) × run e r × WrotePart (text old) (text new) (report_text e.sources r)
  pub cause : IsErrOf result Sink → failed new ≡ one_more (failed old)

-- ---- what complete sources show

-- the log of a replica, and its source keeps nothing of it back
pub record IsCompleteSource {C : Type 0} (gives : C → ℕ → ℕ → ℕ → Connection → Type 0) (s : Source C) (l : ReceivedLog) : Type 0 where
  pub of : l.replica ≡ s.replica
  pub log : AreLogPayloads l.frames
  pub complete : IsCompleteFor (gives s.connector) s.tries l.frames

-- the evidence of these logs proves two commits that conflict, and no two different headers of it have one id
pub record ProveAConflict (committee : List ℕ) (logs : List ReceivedLog) : Type 0 where
  pub e : Evidence
  pub of : IsEvidenceOf committee logs e
  pub ids : NoCollision e.headers
  pub first : Header
  pub second : Header
  pub first_proved : IsProvedCommit (committee_of committee) e first
  pub second_proved : IsProvedCommit (committee_of committee) e second
  pub conflict : Conflict e.headers (committee_of committee).genesis first second

-- a source failed
abbrev pub HaveFailed : List SourceReport → Type 0
HaveFailed sources = (s : SourceReport) × Contains sources s × (s.status ≡ Failed)

-- verdicts on different replicas of more than a third of the weight, each of them a proof
pub record AccusesMoreThanAThird (committee : List ℕ) (r : Report) : Type 0 where
  pub many : AreMoreThanAThird committee r
  pub weight : r.weight ≡ accused_weight committee r.verdicts
  pub apart : AllPairs IsOnLowerReplica r.verdicts
  pub proofs : All (IsProof committee) r.verdicts

-- a source failed, or replicas of more than a third of the weight are accused
abbrev pub IsAccounted : List ℕ → Evidence → Report → Type 0
IsAccounted committee e r = HaveFailed e.sources ⊎ AccusesMoreThanAThird committee r

-- memory was refused, or a write failed
abbrev pub IsMemoryOrSink : RunError → Type 0
IsMemoryOrSink e = (e ≡ Memory) ⊎ (e ≡ Sink)
