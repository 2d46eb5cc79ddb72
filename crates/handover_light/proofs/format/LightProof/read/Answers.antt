use Rattle.std.proofs.Common.{arith, ap, ◌∙◌}
use Rattle.certificates.proofs.CertificateLaws.{if_ok_unless}
use Rattle.handover_light.specs.LightProofReading.{light_proof_in}
use Rattle.handover_light.proofs.LightTexts.{light_proof_again, light_proof_found}
use Rattle.handover_light.proofs.format.LightProof.read.Goals as goal

pub returns-clause-found : goal.returns-clause-found
returns-clause-found c = if_ok_unless _ _ _ _ c.read_all.ensures.value (λ x e. light_proof_found _ x (λ i. omega (arith, c.type_inv.bytes i)) e)

pub returns-clause-only : goal.returns-clause-only
returns-clause-only c x is e m = c.read_all.ensures.value m ∙ ap light_proof_in e ∙ light_proof_again x is
