-- Why a step is refused: the first test that is not passed.
use Rattle.std.specs.Prelude.{◌≡◌, ◌≢◌, ◌↔◌, ℕ, List, [], Option, None, Some, Result, Ok, Err, IfErr, IfOk, IsOk, codes, ⊤}
use Rattle.blocks.specs.CommitteeReading.{committee_in}
use Rattle.handover_blocks.specs.Handovers.{handover_payload}
use Rattle.handover_light.specs.LightProofs.{LightProof}
use Rattle.handover_light.specs.LightProofReading.{light_proof_in}
use Rattle.handover_light.specs.LightProofRefusals.{IsLightProofRefusal}
use Rattle.handover_light.specs.Proving.{ProvesHandover, handover_block}
use Rattle.handover_renewals.specs.RenewalReading.{renewal_in}
use Rattle.handover_renewals.specs.RenewalRefusals.{IsRenewalRefusal}
use Rattle.handover_renewals.specs.Renewals.{Renewal}
use Rattle.handover_steps.specs.Successors.{IsSuccessorFile, IsSuccessorRefusal}
use Rattle.handover_steps.specs.declared.file_refusal.SuccessorRefusal.TheVariants.{OldKey as Taken}
use Rattle.handover_steps.specs.Steps.{IsGoodStep, IsLightProofIn, IsProofOfStep, IsRenewalIn, IsStepOf, Step, StepFiles}
use Rattle.handover_steps.specs.declared.refusal.StepRefusal.{StepRefusal}
use Rattle.handover_steps.specs.declared.refusal.StepRefusal.TheVariants.{Memory, Committee, OldKey, ProofForm, Proof, OtherFile, RenewalForm, Renewal as Unrenewed}

-- ---- of the file

abbrev pub IsFileRefusal : StepRefusal → (old file : List ℕ) → Type 0
IsFileRefusal (Committee refusal) old file = committee_in file ≡ Err refusal
IsFileRefusal (OldKey key) old file = IsSuccessorRefusal [] old file (Taken key)
IsFileRefusal refusal old file = ⊥

-- ---- of the light proof

-- it proves that the block is committed by which the old committee hands over, and the block has this payload
abbrev pub ProvesBlock : (old payload : List ℕ) → LightProof → Type 0
ProvesBlock old payload p = ProvesHandover old p × ((handover_block p).payload ≡ payload)

-- why it does not
abbrev pub IsBlockRefusal : StepRefusal → (old payload : List ℕ) → LightProof → Type 0
IsBlockRefusal (Proof refusal) old payload p = IsLightProofRefusal refusal old p
IsBlockRefusal OtherFile old payload p = ProvesHandover old p × ((handover_block p).payload ≢ payload)
IsBlockRefusal refusal old payload p = ⊥

abbrev pub IsProofRefusal : StepRefusal → (old file bytes : List ℕ) → Type 0
IsProofRefusal Memory old file bytes = ⊤
IsProofRefusal (ProofForm refusal) old file bytes = light_proof_in bytes ≡ Err refusal
IsProofRefusal refusal old file bytes = (p : LightProof) × IsLightProofIn bytes p × IsBlockRefusal refusal old (handover_payload file) p

-- ---- of the renewal

-- why by it the committee of the file does not renew the old one
abbrev pub IsUnrenewedBy : StepRefusal → (old file : List ℕ) → Renewal → Type 0
IsUnrenewedBy (Unrenewed refusal) old file r = IsRenewalRefusal refusal old file r
IsUnrenewedBy refusal old file r = ⊥

abbrev pub IsRenewalRefusalOf : StepRefusal → (old file bytes : List ℕ) → Type 0
IsRenewalRefusalOf Memory old file bytes = ⊤
IsRenewalRefusalOf (RenewalForm refusal) old file bytes = renewal_in bytes ≡ Err refusal
IsRenewalRefusalOf refusal old file bytes = (r : Renewal) × IsRenewalIn bytes r × IsUnrenewedBy refusal old file r

-- .. where there are bytes
abbrev pub IsRefusalIfAny : StepRefusal → (old file : List ℕ) → Option (List ℕ) → Type 0
IsRefusalIfAny refusal old file None = ⊥
IsRefusalIfAny refusal old file (Some bytes) = IsRenewalRefusalOf refusal old file bytes

-- ---- of the step

-- the light proof proves that the ledger was handed over to the committee of the file, which may come next
pub record HasProof (old : List ℕ) (s : StepFiles) : Type 0 where
  pub successor : IsSuccessorFile [] old s.file
  pub light : LightProof
  pub proof : IsProofOfStep old s.file s.proof light

-- .. and there is a renewal
abbrev pub IsUnrenewed : StepRefusal → List ℕ → StepFiles → Type 0
IsUnrenewed refusal old s = HasProof old s × IsRefusalIfAny refusal old s.file s.renewal

-- the tests before this one are passed, and this one is not; or memory was refused
abbrev pub IsStepRefusal : StepRefusal → List ℕ → StepFiles → Type 0
IsStepRefusal Memory old s = ⊤
IsStepRefusal (Committee refusal) old s = IsFileRefusal (Committee refusal) old s.file
IsStepRefusal (OldKey key) old s = IsFileRefusal (OldKey key) old s.file
IsStepRefusal (RenewalForm refusal) old s = IsUnrenewed (RenewalForm refusal) old s
IsStepRefusal (Unrenewed refusal) old s = IsUnrenewed (Unrenewed refusal) old s
IsStepRefusal refusal old s = IsSuccessorFile [] old s.file × IsProofRefusal refusal old s.file s.proof

-- what a step is found to be: unless memory was refused it is taken exactly if it is good; of a good one its parts are told, and of
-- another the first refusal
pub record IsJudged (old : List ℕ) (s : StepFiles) (found : Result Step StepRefusal) : Type 0 where
  pub exact : found ≢ Err Memory → (IsOk found ↔ IsGoodStep old s)
  pub told : IfOk found (IsStepOf old s)
  pub first_refusal : IfErr found (λ refusal. IsStepRefusal refusal old s)

-- the number that docs/REFUSALS.md gives a refusal
abbrev pub step_refusal_number : StepRefusal → ℕ
step_refusal_number Memory = 1
step_refusal_number (Committee refusal) = 2
step_refusal_number (OldKey key) = 3
step_refusal_number (ProofForm refusal) = 4
step_refusal_number (Proof refusal) = 5
step_refusal_number OtherFile = 6
step_refusal_number (RenewalForm refusal) = 7
step_refusal_number (Unrenewed refusal) = 8

-- its name, as it is printed
abbrev pub step_refusal_name : StepRefusal → List ℕ
step_refusal_name Memory = codes "Memory"
step_refusal_name (Committee refusal) = codes "Committee"
step_refusal_name (OldKey key) = codes "OldKey"
step_refusal_name (ProofForm refusal) = codes "ProofForm"
step_refusal_name (Proof refusal) = codes "Proof"
step_refusal_name OtherFile = codes "OtherFile"
step_refusal_name (RenewalForm refusal) = codes "RenewalForm"
step_refusal_name (Unrenewed refusal) = codes "Renewal"
