-- When a committee's file, its renewal and a light proof are a good step from the committee before.
use Rattle.std.specs.Prelude.{◌≡◌, ◌++◌, ℕ, zero, suc, List, [], ◌∷◌, Option, Some, None, ⊤, option_map}
use Rattle.std.specs.Borrow.{Bor}
use Rattle.blocks.specs.Committees.{n_of}
use Rattle.blocks.specs.Genesis.{chain_id_of}
use Rattle.blocks.specs.Headers.{Header}
use Rattle.blocks.specs.Weights.{total_of}
use Rattle.handover_blocks.specs.Handovers.{handover_payload}
use Rattle.handover_light.specs.LightProofs.{LightProof, IsLightProof, light_proof_text}
use Rattle.handover_light.specs.Proving.{ProvesHandover, handover_block}
use Rattle.handover_renewals.specs.Renewals.{Renewal, IsRenewal, renewal_text}
use Rattle.handover_renewals.specs.Renewing.{Renews}
use Rattle.handover_renewals.specs.SlotKinds.{IsKeptSlot, IsSlotKind}
use Rattle.handover_renewals.specs.Slots.{new_weight}
use Rattle.handover_renewals.specs.declared.kinds.SlotKind.{SlotKind}
use Rattle.handover_renewals.specs.declared.kinds.SlotKind.TheVariants.{Kept, New, ByHand}
use Rattle.handover_steps.specs.Successors.{IsSuccessorFile}

-- ---- files

-- the file of the committee that follows, its renewal, if there is one, and the light proof of the handover to it
pub record StepFiles : Type 0 where
  pub file : List ℕ
  pub renewal : Option (List ℕ)
  pub proof : List ℕ

abbrev pub bytes_in : Option (Bor (List ℕ)) → Option (List ℕ)
bytes_in bytes = option_map (λ b. b.now) bytes

abbrev pub files_of_step : (file : List ℕ) → Option (List ℕ) → (proof : List ℕ) → StepFiles
files_of_step file renewal proof = record { file = file; renewal = renewal; proof = proof }

-- ---- the light proof

-- the bytes spell it
pub record IsLightProofIn (bytes : List ℕ) (p : LightProof) : Type 0 where
  pub is_light_proof : IsLightProof p
  pub text : bytes ≡ light_proof_text p

-- .. and it proves under the old committee that a block is committed which names this file
pub record IsProofOfStep (old file bytes : List ℕ) (p : LightProof) : Type 0 where
  pub spelled : IsLightProofIn bytes p
  pub proves : ProvesHandover old p
  pub names : (handover_block p).payload ≡ handover_payload file

-- ---- the renewal

-- the bytes spell it
pub record IsRenewalIn (bytes : List ℕ) (r : Renewal) : Type 0 where
  pub is_renewal : IsRenewal r
  pub text : bytes ≡ renewal_text r

-- .. and by it the committee of this file renews the old one
pub record IsRenewalOfStep (old file bytes : List ℕ) (r : Renewal) : Type 0 where
  pub spelled : IsRenewalIn bytes r
  pub renews : Renews old file r

-- a renewal just where there are bytes of one
abbrev pub IsRenewalIfAny : (old file : List ℕ) → Option (List ℕ) → Option Renewal → Type 0
IsRenewalIfAny old file None None = ⊤
IsRenewalIfAny old file (Some bytes) (Some r) = IsRenewalOfStep old file bytes r
IsRenewalIfAny old file bytes r = ⊥

-- ---- the step

-- the committee of the file may come after the old one, the light proof proves that the ledger was handed over to it, and the renewal,
-- if there is one, is of both
pub record IsGoodBy (old : List ℕ) (s : StepFiles) (p : LightProof) (r : Option Renewal) : Type 0 where
  pub successor : IsSuccessorFile [] old s.file
  pub proof : IsProofOfStep old s.file s.proof p
  pub renewal : IsRenewalIfAny old s.file s.renewal r

abbrev pub IsGoodStep : List ℕ → StepFiles → Type 0
IsGoodStep old s = (p : LightProof) × (r : Option Renewal) × IsGoodBy old s p r

-- ---- what is told of it

-- the chain of the committee that follows, the block that hands over, how much the new slots weigh, where there is a renewal, how much all
-- slots weigh, and what each slot is
pub record Step : Type 0 where
  pub chain : List ℕ
  pub block : Header
  pub new_weight : Option ℕ
  pub total : ℕ
  pub kinds : List SlotKind

-- slot k; with no renewal each slot that is not kept is by hand
abbrev pub IsKindBy : (old new : List ℕ) → Option Renewal → ℕ → SlotKind → Type 0
IsKindBy old new (Some r) k kind = IsSlotKind kind old new r k
IsKindBy old new None k Kept = IsKeptSlot old new k
IsKindBy old new None k New = ⊥
IsKindBy old new None k ByHand = IsKeptSlot old new k → ⊥

-- the first n slots
abbrev pub AreKinds : (old new : List ℕ) → Option Renewal → ℕ → List SlotKind → Type 0
AreKinds old new r zero kinds = kinds ≡ []
AreKinds old new r (suc n) kinds =
    (before : List SlotKind) × (kind : SlotKind) × AreKinds old new r n before × IsKindBy old new r n kind × (kinds ≡ before ++ kind ∷ [])

-- of the slots that have other keys than in the old committee, where there is a renewal
abbrev pub weight_by : (old new : List ℕ) → Option Renewal → Option ℕ
weight_by old new r = option_map (λ renewal. new_weight old new) r

-- the renewal of a pair, if there is one
abbrev pub renewal_in_pair : Option (Renewal × ℕ) → Option Renewal
renewal_in_pair pair = option_map (λ r. r.0) pair

-- .. and its weight is that of the new slots
abbrev pub HasNewWeight : (old new : List ℕ) → Option (Renewal × ℕ) → Type 0
HasNewWeight old new None = ⊤
HasNewWeight old new (Some pair) = pair.1 ≡ new_weight old new

pub record IsTold (old new : List ℕ) (p : LightProof) (r : Option Renewal) (t : Step) : Type 0 where
  pub chain : t.chain ≡ chain_id_of new
  pub block : t.block ≡ handover_block p
  pub new_weight : t.new_weight ≡ weight_by old new r
  pub total : t.total ≡ total_of old
  pub kinds : AreKinds old new r (n_of new) t.kinds

-- the step is good, and this is told of it
abbrev pub IsStepOf : List ℕ → StepFiles → Step → Type 0
IsStepOf old s t = (p : LightProof) × (r : Option Renewal) × IsGoodBy old s p r × IsTold old s.file p r t
