use Rattle.std.proofs.Common.{subst, ◌∙◌}
use Rattle.handover_steps.specs.StepRefusals.{IsStepRefusal}
use Rattle.handover_steps.specs.Steps.{IsStepOf, StepFiles, bytes_in}
use Rattle.handover_steps.specs.declared.refusal.StepRefusal.{StepRefusal}
use Rattle.handover_steps.proofs.Going.{refused_as, same_files}
use Rattle.handover_steps.proofs.lineage.next.Goals as goal

pub returns-in_err-step-clause-refused : goal.returns-in_err-step-clause-refused
returns-in_err-step-clause-refused c =
    let same = same_files c.args.files.now c.file.result.now (bytes_in c.renewal.result) c.proof.result.now c.file.ensures c.renewal.ensures c.proof.ensures in
    refused_as c.from_residual.result c.in_err-step.field-0.0 (λ (r : StepRefusal). IsStepRefusal r c.args.old.now c.args.files.now) c.from_residual.ensures.1
    (subst (λ (s : StepFiles). IsStepRefusal c.in_err-step.field-0.0 c.args.old.now s) same c.in_err-step.ensures.judged.first_refusal)

pub returns-in-Ok-clause-found : goal.returns-in-Ok-clause-found
returns-in-Ok-clause-found c =
    let same = same_files c.args.files.now c.file.result.now (bytes_in c.renewal.result) c.proof.result.now c.file.ensures c.renewal.ensures c.proof.ensures in
    (subst (λ (s : StepFiles). IsStepOf c.args.old.now s c.in_ok-step.step) same c.in_ok-step.ensures.judged.told, c.in-Ok.ensures.found.0 ∙ c.file-2.ensures)
