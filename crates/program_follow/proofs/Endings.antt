-- How the program ends.
use Rattle.std.proofs.Common.{◌≡◌, ◌≢◌, ◌⊎◌, ℕ, List, [], ◌∷◌, Option, None, Some, Result, Ok, Err, String, refl, sym, ◌∙◌, subst, inl, inr, arith}
use Rattle.std.specs.declared.alloc.Global.{Global}
use Rattle.base_streams.specs.Streams.{WrotePart}
use Rattle.program_parts.specs.Writes.{CountsOutput}
use Rattle.program_parts.specs.declared.program_fault.ProgramFault.{ProgramFault}
use Rattle.program_parts.specs.declared.program_fault.ProgramFault.TheVariants.{Output}
use Rattle.program_parts.specs.declared.words.SourceWord.{SourceWord}
use Rattle.handover_steps.specs.LineageLines.{lineage_status}
use Rattle.handover_steps.specs.declared.refusal.StepRefusal.{StepRefusal}
use Rattle.program_follow.specs.LineageOutputs.{GivesUp, IsCause, IsFindingFault, IsFound, IsOutput}
use Rattle.program_follow.specs.LineageWords.{AskForLineage, IsWordsFault}
use Rattle.program_follow.specs.declared.lineage_fault.LineageFault.{LineageFault}

-- ---- the status

status_cases : (refused : Option StepRefusal) (later : Option ℕ) → (lineage_status refused later ≡ 0) ⊎ (lineage_status refused later ≡ 1)
status_cases None None = inl refl
status_cases None (Some later) = inr refl
status_cases (Some refusal) later = inr refl

found_status : (status : ℕ) (text : List ℕ) → IsFound status text → (status ≡ 0) ⊎ (status ≡ 1)
found_status status text is = elim (status_cases is.lineage.refused is.later) [
  | inl e ↦ inl (is.ends ∙ e)
  | inr e ↦ inr (is.ends ∙ e)
]

-- 0 or 1
pub output_status : (words : List (String Global)) (status : ℕ) (text : List ℕ) → IsOutput words status text → (status ≡ 0) ⊎ ((status ≡ 1) ⊎ (status ≡ 2))
output_status words status text (root, dir, sources, ask, is) = elim (found_status status text is) [
  | inl e ↦ inl e
  | inr e ↦ inr (inl e)
]

pub not_two : (status : ℕ) (text : List ℕ) → IsFound status text → status ≢ 2
not_two status text is two = elim (found_status status text is) [
  | inl e ↦ omega arith
  | inr e ↦ omega arith
]

-- ---- faults

no_output : (words : List (String Global)) → IsWordsFault words Output → ⊥
no_output [] c = c.1
no_output (root ∷ []) c = c.1
no_output (root ∷ form ∷ []) c = c.1
no_output (root ∷ form ∷ dir ∷ []) c = c.1
no_output (root ∷ form ∷ dir ∷ name ∷ sources) c = c.1

-- nothing was written where the fault is no failed write
silent : {W : Type 0} (words : List (String Global)) (fault : ProgramFault LineageFault) (text : W → Option (List ℕ)) (failed : W → ℕ) (out : W)
    → fault ≢ Output → IsCause words fault → GivesUp words fault text failed out out
silent words fault text failed out other cause = record {
  cause = λ _. (cause, refl);
  cut_short = λ is. absurd (other is);
  counted = (λ is. absurd (other is), λ _. refl);
}

pub words_given_up : {W : Type 0} (words : List (String Global)) (fault : ProgramFault LineageFault) (text : W → Option (List ℕ)) (failed : W → ℕ) (out : W)
    → IsWordsFault words fault → GivesUp words fault text failed out out
words_given_up words fault text failed out c =
    silent words fault text failed out (λ is. no_output words (subst (λ (f : ProgramFault LineageFault). IsWordsFault words f) is c)) (inl c)

finding_no_output : (root dir : List ℕ) (fault : ProgramFault LineageFault) → IsFindingFault root dir fault → fault ≢ Output
finding_no_output root dir fault c is = subst (λ (f : ProgramFault LineageFault). IsFindingFault root dir f) is c

pub finding_given_up : {W : Type 0} (words : List (String Global)) (root dir : List ℕ) (sources : List SourceWord) (fault : ProgramFault LineageFault) (text : W → Option (List ℕ)) (failed : W → ℕ) (out : W)
    → AskForLineage words root dir sources → IsFindingFault root dir fault → GivesUp words fault text failed out out
finding_given_up words root dir sources fault text failed out ask c =
    silent words fault text failed out (finding_no_output root dir fault c) (inr (root, dir, sources, ask, c))

-- a write failed
pub cut_given_up : {W : Type 0} (words : List (String Global)) (root dir : List ℕ) (sources : List SourceWord) (status : ℕ) (whole : List ℕ) (fault : ProgramFault LineageFault) (text : W → Option (List ℕ)) (failed : W → ℕ) (out out' : W)
    → AskForLineage words root dir sources → IsFound status whole → fault ≡ Output → WrotePart (text out) (text out') whole → CountsOutput fault (failed out) (failed out')
    → GivesUp words fault text failed out out'
cut_given_up words root dir sources status whole fault text failed out out' ask is cut part counted = record {
  cause = λ other. absurd (other cut);
  cut_short = λ _. (status, whole, (root, dir, sources, ask, is), part);
  counted = counted;
}
