-- A file that is refused may not come next.
use Rattle.std.proofs.Common.{◌≡◌, ℕ, List, [], ◌∷◌, Result, Ok, Err, subst, sym, ◌∙◌}
use Rattle.std.specs.Result.{IsErrAnd}
use Rattle.blocks.specs.CommitteeReading.{committee_in}
use Rattle.blocks.specs.Committees.{IsCommittee}
use Rattle.blocks.proofs.CommitteeLaws.{committee_again}
use Rattle.handover_steps.specs.Successors.{IsSuccessorFile}
use Rattle.handover_steps.specs.Steps.{Step, StepFiles}
use Rattle.handover_steps.specs.StepRefusals.{IsFileRefusal, IsJudged, IsStepRefusal}
use Rattle.handover_steps.specs.declared.refusal.StepRefusal.{StepRefusal}
use Rattle.handover_steps.specs.declared.refusal.StepRefusal.TheVariants.{Memory, Committee, OldKey, ProofForm, Proof, OtherFile, RenewalForm, Renewal as Unrenewed}

pub file_refused : (refusal : StepRefusal) (old file : List ℕ) → IsFileRefusal refusal old file → IsSuccessorFile [] old file → ⊥
file_refused Memory old file none next = none
file_refused (Committee r) old file refused next =
    let again = committee_again next.0.members file next.0.spelled in
    let other : Err r ≡ Ok file = sym refused ∙ again in
    let never : ⊥ = cc in never
file_refused (OldKey key) old file refused next =
    let taken = refused.1.0 in
    next.1 taken.slot taken.key taken.of
file_refused (ProofForm r) old file none next = none
file_refused (Proof r) old file none next = none
file_refused OtherFile old file none next = none
file_refused (RenewalForm r) old file none next = none
file_refused (Unrenewed r) old file none next = none

file_is_step : (refusal : StepRefusal) (old : List ℕ) (s : StepFiles) → IsFileRefusal refusal old s.file → IsStepRefusal refusal old s
file_is_step Memory old s none = absurd none
file_is_step (Committee r) old s refused = refused
file_is_step (OldKey key) old s refused = refused
file_is_step (ProofForm r) old s none = absurd none
file_is_step (Proof r) old s none = absurd none
file_is_step OtherFile old s none = absurd none
file_is_step (RenewalForm r) old s none = absurd none
file_is_step (Unrenewed r) old s none = absurd none

-- a step whose file is refused is judged so
pub file_judged : (found : Result Step StepRefusal) (refusal : StepRefusal) (old : List ℕ) (s : StepFiles)
    → IsErrAnd found (λ x. x ≡ refusal) → IsFileRefusal refusal old s.file → IsJudged old s found
file_judged (Ok t) refusal old s is refused = absurd is
file_judged (Err x) refusal old s is refused = record {
  exact = λ _. (λ ok. let never : ⊥ = cc in absurd never, λ good. absurd (file_refused refusal old s.file refused good.2.successor));
  told = tt;
  first_refusal = subst (λ (r : StepRefusal). IsStepRefusal r old s) (sym is) (file_is_step refusal old s refused);
}
