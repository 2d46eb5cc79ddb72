-- Whether a light proof shows that the ledger was handed over, and the line that says why not.
use Rattle.std.specs.Prelude.{◌≡◌, ◌<◌, ℕ, List, Result, Ok, Err, codes, true}
use Rattle.http_server.specs.declared.response.Response.{Response}
use Rattle.blocks.specs.Committees.{IsCommittee, n_of}
use Rattle.handover_light.specs.LightProofReading.{IsMeasured, form_refusal_name, form_refusal_number, light_proof_in}
use Rattle.handover_light.specs.LightProofRefusals.{IsLightProofRefusal, light_proof_refusal_name, light_proof_refusal_number}
use Rattle.handover_light.specs.LightProofs.{LightProof}
use Rattle.handover_light.specs.Proving.{ProvesHandover}
use Rattle.handover_light.specs.declared.format.LightProofFormRefusal.TheVariants as form
use Rattle.handover_renewals.specs.Renewing.{HasCount}
use Rattle.handover_renewals.specs.Slots.{is_kept}
use Rattle.vote_desk.specs.declared.desk_error.DeskError.TheVariants as desk
use Rattle.signer_service.specs.Responses.{IsLine, named_line}
use Rattle.signer_service.specs.ToldLines.{IsDeskTold}
use Rattle.signer_service.specs.declared.proving.Unproved.{Unproved}
use Rattle.signer_service.specs.declared.proving.Unproved.TheVariants as why

-- ---- what it shows

-- these bytes are the light proof, and it proves a handover of this committee
pub record IsProofOf (committee text : List ℕ) (proof : LightProof) : Type 0 where
  pub reads : light_proof_in text ≡ Ok proof
  pub proves : ProvesHandover committee proof

-- the first test that is not passed: of the bytes, but for want of memory, and of the light proof under this committee
abbrev pub IsUnproved : (committee text : List ℕ) → Unproved → Type 0
IsUnproved committee text (why.Form form.Memory) = IsMeasured text
IsUnproved committee text (why.Form refusal) = light_proof_in text ≡ Err refusal
IsUnproved committee text (why.Refused refusal) =
    (proof : LightProof) × (light_proof_in text ≡ Ok proof) × IsLightProofRefusal refusal committee proof

-- ---- the replica's keys

-- both committees have the replica, with the same keys
pub record KeepsSlot (old new : List ℕ) (replica : ℕ) : Type 0 where
  pub known : replica < n_of old
  pub still : replica < n_of new
  pub count : HasCount old new replica
  pub same : is_kept old new replica ≡ true

-- the file is that of a committee in which it has others
abbrev pub HasOtherKeys : (committee file : List ℕ) → ℕ → Type 0
HasOtherKeys committee file replica = IsCommittee file × (KeepsSlot committee file replica → ⊥)

-- ---- what is told

-- the response tells why a light proof shows nothing
abbrev pub IsUnprovedTold : Unproved → Response → Type 0
IsUnprovedTold (why.Form form.Memory) response = IsDeskTold desk.Memory response
IsUnprovedTold (why.Form refusal) response =
    IsLine 422 (named_line (codes "refused proof ") (form_refusal_number refusal) (form_refusal_name refusal)) response
IsUnprovedTold (why.Refused refusal) response =
    IsLine 422 (named_line (codes "refused handover ") (light_proof_refusal_number refusal) (light_proof_refusal_name refusal)) response
