-- Laws of steps.
use Rattle.std.specs.Prelude.{◌≡◌, ◌++◌, ℕ, List, [], ◌∷◌, ⊤}
use Rattle.audit_evidence.specs.Evidence.{Evidence}
use Rattle.handover_blocks.specs.Handovers.{handover_payload}
use Rattle.handover_light.specs.Histories.{AreHistories}
use Rattle.handover_light.specs.LightProofLaws.{HasLightProof}
use Rattle.handover_light.specs.LightProofs.{LightProof}
use Rattle.handover_steps.specs.JudgedSteps.{AreStepsTo, ComesToBy}
use Rattle.handover_steps.specs.Steps.{IsLightProofIn, Step, StepFiles}

-- steps that are told of are good
abbrev pub StepsThatAreToldComeTo : Type 0
StepsThatAreToldComeTo =
    (root last : List ℕ) (ss : List StepFiles) (ts : List Step) → AreStepsTo root ss ts last → ComesToBy root ss last

-- where some steps come to a committee and others go on from it, all together come to the last
abbrev pub StepsCompose : Type 0
StepsCompose =
    (root between last : List ℕ) (ss more : List StepFiles)
    → ComesToBy root ss between → ComesToBy between more last → ComesToBy root (ss ++ more) last

-- steps come to one committee
abbrev pub StepsComeToOne : Type 0
StepsComeToOne =
    (root last other : List ℕ) (ss : List StepFiles) → ComesToBy root ss last → ComesToBy root ss other → last ≡ other

-- ---- two lists of steps

-- evidence has each light proof that these bytes spell
abbrev pub HasProofIn : Evidence → List ℕ → Type 0
HasProofIn e bytes = (p : LightProof) → IsLightProofIn bytes p → HasLightProof e p

-- what correct replicas of a committee hold, and the light proofs of both steps
pub record IsSound (old : List ℕ) (s t : StepFiles) : Type 0 where
  pub evidence : Evidence
  pub of : evidence.committee ≡ old
  pub faulty : List ℕ
  pub careless : List ℕ
  pub histories : AreHistories evidence faulty careless
  pub first : HasProofIn evidence s.proof
  pub second : HasProofIn evidence t.proof

-- their files are one if the blocks that name them have one payload
abbrev pub HaveNoCollision : StepFiles → StepFiles → Type 0
HaveNoCollision s t = handover_payload s.file ≡ handover_payload t.file → s.file ≡ t.file

-- each committee that both come to is so, as far as both go
abbrev pub AreSound : List ℕ → List StepFiles → List StepFiles → Type 0
AreSound root [] ts = ⊤
AreSound root (s ∷ ss) [] = ⊤
AreSound root (s ∷ ss) (t ∷ ts) = IsSound root s t × HaveNoCollision s t × AreSound s.file ss ts

-- as far as both go they name the same files
abbrev pub NameTheSame : List StepFiles → List StepFiles → Type 0
NameTheSame [] ts = ⊤
NameTheSame (s ∷ ss) [] = ⊤
NameTheSame (s ∷ ss) (t ∷ ts) = (handover_payload s.file ≡ handover_payload t.file) × (s.file ≡ t.file) × NameTheSame ss ts

-- two lists of good steps from one committee do
abbrev pub LineagesAgree : Type 0
LineagesAgree =
    (root last other : List ℕ) (ss ts : List StepFiles)
    → AreSound root ss ts → ComesToBy root ss last → ComesToBy root ts other → NameTheSame ss ts
