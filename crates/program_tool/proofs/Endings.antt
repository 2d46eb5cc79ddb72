-- How an audit ends.
use Rattle.std.proofs.Common.{◌≡◌, ◌∙◌, ℕ, List, [], Option, Result, Ok, Err, IfOk, inl, inr, refl, subst}
use Rattle.std.specs.Borrow.{Bor}
use Rattle.std.specs.List.{All, AllZip}
use Rattle.std.specs.Prelude.{◌++◌, ◌⊎◌}
use Rattle.log_transfer.specs.declared.connector.Connector.{Ghosts}
use Rattle.verdict_format.specs.Proofs.{IsProof}
use Rattle.audit_evidence.specs.Logs.{ReceivedLog}
use Rattle.parallel_verify.specs.declared.source.Source.{Source}
use Rattle.parallel_verify.specs.declared.judging.Judgement.{Judgement}
use Rattle.parallel_verify.specs.JudgedSources.{IsJudged}
use Rattle.parallel_verify.specs.declared.judging.Judging.{Judging}
use Rattle.parallel_verify.specs.declared.judging.Judging.TheVariants.{Each as Judged}
use Rattle.culprit_search.specs.Reports.{Report}
use Rattle.program_words.specs.declared.command.Strictness.{Strictness}
use Rattle.program_words.specs.declared.command.Strictness.TheVariants.{Lax, Quorum, All as Each}
use Rattle.program_tool.specs.AuditFiles.{AreReportsOn, HasStored, verdict_files}
use Rattle.program_tool.specs.Audits.{EndsAs, IsAuditPrinted, IsEndOf, Said, status_of}
use Rattle.program_tool.specs.StoredFiles.{Stored, StoredFile}
use Rattle.program_tool.specs.Strict.{AreEnough, AreFound, AreJudgedFor, AreTooFew, FallsShort, HoldsUp}
use Rattle.program_tool.proofs.Filings.{filed}
use Rattle.program_tool.specs.declared.audit.AuditEnd.{AuditEnd}
use Rattle.program_tool.specs.declared.audit.AuditEnd.TheVariants.{NoCulprit, TooFewSound, Culprits}

enough : (strictness : Strictness) (judging : Judging) (judged : List Judgement) (k : List ℕ) (logs : List ReceivedLog) → (judging ≡ Judged) ⊎ (strictness ≡ Lax) → HoldsUp strictness k judged → (judging ≡ Judged → AllZip (IsJudged k) logs judged) → AreEnough strictness k logs
unfolding AreEnough
enough Lax judging judged k logs asked holds each = tt
enough Quorum judging judged k logs asked holds each = elim asked [ inl e ↦ record { judged = judged; each = each e; is = holds } | inr lax ↦ absurd cc ]
enough Each judging judged k logs asked holds each = elim asked [ inl e ↦ record { judged = judged; each = each e; is = holds } | inr lax ↦ absurd cc ]

too_few : (strictness : Strictness) (judging : Judging) (judged : List Judgement) (k : List ℕ) (logs : List ReceivedLog) → (judging ≡ Judged) ⊎ (strictness ≡ Lax) → FallsShort strictness k judged → (judging ≡ Judged → AllZip (IsJudged k) logs judged) → AreTooFew strictness k logs
unfolding AreTooFew
too_few Lax judging judged k logs asked short each = absurd short
too_few Quorum judging judged k logs asked short each = elim asked [ inl e ↦ record { judged = judged; each = each e; is = short } | inr lax ↦ absurd cc ]
too_few Each judging judged k logs asked short each = elim asked [ inl e ↦ record { judged = judged; each = each e; is = short } | inr lax ↦ absurd cc ]

-- an audit with other words for what is said of it
pub said_so : {C : Type 0} (connector : Ghosts C) (Are Are' : Said) (committee : List ℕ) (sources : List (Source C)) (before after : Option (List ℕ)) (verdicts verdicts' : List (List ℕ))
    → (p : IsAuditPrinted connector Are committee sources before after verdicts) → Are' committee p.run.evidence.logs p.report → verdicts ≡ verdicts' → IsAuditPrinted connector Are' committee sources before after verdicts'
said_so connector Are Are' committee sources before after verdicts verdicts' p are is = record {
  evidence = p.evidence;
  report = p.report;
  run = p.run;
  accountability = p.accountability;
  are = are;
  with = p.with ∙ is;
  proofs = subst (λ (vs : List (List ℕ)). All (IsProof committee) vs) is p.proofs;
  more_than_a_third = p.more_than_a_third;
  wrote = p.wrote;
}

-- what was found of the logs, the verdicts, and what was stored tell how it ends
pub ended : {C : Type 0} (connector : Ghosts C) (strictness : Strictness) (committee : List ℕ) (sources : List (Source C)) (before after : Option (List ℕ)) (folder : List ℕ) (words : List (Bor (List ℕ))) (json : Option (Bor (List ℕ)))
    (a c : Option (List StoredFile)) (reports : List StoredFile) (judging : Judging) (judged : List Judgement) (report : Report) (verdicts : List (List ℕ)) (end : AuditEnd)
    → AreJudgedFor strictness json judging → IsAuditPrinted connector (AreFound judging judged report) committee sources before after verdicts → IsEndOf strictness committee judged verdicts end
    → Stored a c (verdict_files folder report.verdicts ++ reports) → AreReportsOn folder words json (status_of end) committee judged report reports
    → EndsAs connector strictness committee sources before after (HasStored (Stored a c) folder words json) end
ended connector strictness committee sources before after folder words json a c reports judging judged report verdicts Culprits asked p is stored on =
    (verdicts, is, said_so connector _ _ committee sources before after verdicts verdicts p (filed folder words json 3 committee p.run.evidence.logs judging judged report p.report a c reports asked.reported p.are stored on) refl)
ended connector strictness committee sources before after folder words json a c reports judging judged report verdicts NoCulprit asked p is stored on =
    said_so connector _ _ committee sources before after verdicts [] p
    (enough strictness judging judged committee p.run.evidence.logs asked.strict is.1 p.are.each, filed folder words json 0 committee p.run.evidence.logs judging judged report p.report a c reports asked.reported p.are stored on) is.0
ended connector strictness committee sources before after folder words json a c reports judging judged report verdicts TooFewSound asked p is stored on =
    said_so connector _ _ committee sources before after verdicts [] p
    (too_few strictness judging judged committee p.run.evidence.logs asked.strict is.1 p.are.each, filed folder words json 4 committee p.run.evidence.logs judging judged report p.report a c reports asked.reported p.are stored on) is.0

-- where it ends so, what that says
pub ended_as : {C E : Type 0} (connector : Ghosts C) (strictness : Strictness) (committee : List ℕ) (sources : List (Source C)) (before after : Option (List ℕ)) (Filed : ℕ → Said) (r : Result AuditEnd E) (to : AuditEnd)
    → IfOk r (EndsAs connector strictness committee sources before after Filed) → IfOk r (λ end. end ≡ to → EndsAs connector strictness committee sources before after Filed to)
ended_as connector strictness committee sources before after Filed (Ok end) to ends = λ is. subst (λ (e : AuditEnd). EndsAs connector strictness committee sources before after Filed e) is ends
ended_as connector strictness committee sources before after Filed (Err e) to ends = tt
