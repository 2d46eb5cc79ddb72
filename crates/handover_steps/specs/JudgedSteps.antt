-- A list of steps from a committee on, each from the committee of the step before.
use Rattle.std.specs.Prelude.{◌≡◌, ◌≢◌, ◌++◌, ℕ, List, [], ◌∷◌, Option, Some, None}
use Rattle.handover_steps.specs.Steps.{IsGoodStep, IsStepOf, Step, StepFiles}
use Rattle.handover_steps.specs.StepRefusals.{IsStepRefusal}
use Rattle.handover_steps.specs.declared.refusal.StepRefusal.{StepRefusal}
use Rattle.handover_steps.specs.declared.refusal.StepRefusal.TheVariants.{Memory}

-- from the committee of the first file these good steps come to that of the last
abbrev pub ComesToBy : List ℕ → List StepFiles → List ℕ → Type 0
ComesToBy root [] last = root ≡ last
ComesToBy root (s ∷ ss) last = IsGoodStep root s × ComesToBy s.file ss last

-- .. and this is told of each
abbrev pub AreStepsTo : List ℕ → List StepFiles → List Step → List ℕ → Type 0
AreStepsTo root [] [] last = root ≡ last
AreStepsTo root (s ∷ ss) (t ∷ ts) last = IsStepOf root s t × AreStepsTo s.file ss ts last
AreStepsTo root ss ts last = ⊥

-- what is found of steps: those that are good, up to the first that is refused, if one is
pub record Lineage : Type 0 where
  pub steps : List Step
  pub refused : Option StepRefusal

-- all are good
abbrev pub IsWhole : List ℕ → List StepFiles → List Step → Type 0
IsWhole root ss ts = (last : List ℕ) × AreStepsTo root ss ts last

-- those before the one that is refused are
pub record IsCut (root : List ℕ) (ss : List StepFiles) (ts : List Step) (refusal : StepRefusal) : Type 0 where
  pub before : List StepFiles
  pub refused : StepFiles
  pub after : List StepFiles
  pub all : ss ≡ before ++ refused ∷ after
  pub last : List ℕ
  pub good : AreStepsTo root before ts last
  pub no_memory : refusal ≢ Memory
  pub reason : IsStepRefusal refusal last refused

abbrev pub IsFoundOf : List ℕ → List StepFiles → List Step → Option StepRefusal → Type 0
IsFoundOf root ss ts None = IsWhole root ss ts
IsFoundOf root ss ts (Some refusal) = IsCut root ss ts refusal

abbrev pub IsLineageOf : List ℕ → List StepFiles → Lineage → Type 0
IsLineageOf root ss l = IsFoundOf root ss l.steps l.refused
