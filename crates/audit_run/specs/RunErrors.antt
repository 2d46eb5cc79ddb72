-- The errors of a run of the audit, with their numbers as docs/REFUSALS.md gives them.
use Rattle.std.specs.Prelude.{ℕ}
use Rattle.audit_evidence.specs.declared.refusal.EvidenceRefusal.{EvidenceRefusal}
use Rattle.audit_evidence.specs.declared.refusal.EvidenceRefusal.TheVariants.{Memory as NoEvidence, Collision as Colliding}
use Rattle.culprit_search.specs.declared.writing.ReportError.{ReportError}
use Rattle.culprit_search.specs.declared.writing.ReportError.TheVariants.{Memory as NoText, Sink as NotWritten}
use Rattle.audit_run.specs.declared.run_error.RunError.{RunError}
use Rattle.audit_run.specs.declared.run_error.RunError.TheVariants.{Memory, Committee, Collision, Sink}

abbrev pub run_error_number : RunError → ℕ
run_error_number Memory = 1
run_error_number (Committee refusal) = 2
run_error_number (Collision h k) = 3
run_error_number Sink = 4

-- of evidence that is refused
abbrev pub of_evidence : EvidenceRefusal → RunError
of_evidence NoEvidence = Memory
of_evidence (Colliding h k) = Collision h k

-- of a report that is not written
abbrev pub of_report : ReportError → RunError
of_report NoText = Memory
of_report NotWritten = Sink
