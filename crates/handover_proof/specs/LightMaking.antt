-- The light proof of the handover that evidence proves.
use Rattle.std.specs.Prelude.{◌≡◌, List, ℕ}
use Rattle.blocks.specs.Headers.{Header}
use Rattle.blocks.specs.Weights.{committee_of}
use Rattle.audit_evidence.specs.Evidence.{Evidence}
use Rattle.audit_commits.specs.Commits.{HasNoConflict}
use Rattle.handover_blocks.specs.Handovers.{IsFirstCommitted, IsHandover}
use Rattle.handover_light.specs.LightProofs.{LightProof}
use Rattle.handover_light.specs.Proving.{ProvesHandover, handover_block}

-- the first handover on a chain that the evidence proves to be committed is its first header, and under the committee of the evidence it
-- proves that this block is committed
pub record IsLightProofOf (e : Evidence) (p : LightProof) : Type 0 where
  pub first : IsFirstCommitted (committee_of e.committee) e IsHandover (handover_block p)
  pub proves : ProvesHandover e.committee p

-- the light proof proves that this block is committed
pub record Proves (committee : List ℕ) (p : LightProof) (b : Header) : Type 0 where
  pub proves : ProvesHandover committee p
  pub block : handover_block p ≡ b

-- if no commits conflict, the evidence proves no handover
abbrev pub HasNoHandover : Evidence → Type 0
HasNoHandover e =
    HasNoConflict (committee_of e.committee) e → (b : Header) → IsFirstCommitted (committee_of e.committee) e IsHandover b → ⊥
