-- A light proof of the step that a signer goes over by.
use Rattle.std.specs.Prelude.{◌≡◌, ℕ, List}
use Rattle.blocks.specs.Headers.{header_id}
use Rattle.handover_light.specs.LightProofs.{LightProof}
use Rattle.handover_light.specs.Proving.{ProvesHandover, handover_block}

-- it proves, under this committee, that the block of this id is committed, and hands over
pub record ProvesStep (committee : List ℕ) (handover : List ℕ) (p : LightProof) : Type 0 where
  pub proves : ProvesHandover committee p
  pub block : header_id (handover_block p) ≡ handover
