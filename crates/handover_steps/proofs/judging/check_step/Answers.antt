use Rattle.std.proofs.Common.{ℕ, List, [], subst, sym}
use Rattle.handover_steps.specs.Successors.{IsSuccessorFile}
use Rattle.handover_steps.specs.Steps.{bytes_in, files_of_step}
use Rattle.handover_steps.specs.StepRefusals.{IsJudged}
use Rattle.handover_steps.proofs.RefusedFiles.{file_judged}
use Rattle.handover_steps.proofs.judging.check_step.Goals as goal

pub returns-in_err-new : goal.returns-in_err-new
returns-in_err-new c = record {
  judged = file_judged c.from_residual.result c.in_err-new.field-0.0 c.args.old.now (files_of_step c.args.file.now (bytes_in c.args.renewal) c.args.proof.now) c.from_residual.ensures.1 c.in_err-new.ensures.refused;
}

pub check_next-requires-clause-next : goal.check_next-requires-clause-next
check_next-requires-clause-next c =
    subst (λ (f : List ℕ). IsSuccessorFile [] c.args.old.now f) (sym c.in_ok-new.ensures.ok.0) c.in_ok-new.ensures.ok.2

pub returns : goal.returns
returns c = record {
  judged = subst (λ (f : List ℕ). IsJudged c.args.old.now (files_of_step f (bytes_in c.args.renewal) c.args.proof.now) c.check_next.result) c.in_ok-new.ensures.ok.0 c.check_next.ensures;
}
