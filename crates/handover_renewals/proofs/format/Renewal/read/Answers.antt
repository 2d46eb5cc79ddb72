use Rattle.std.proofs.Common.{arith, ap, ◌∙◌}
use Rattle.certificates.proofs.CertificateLaws.{if_ok_unless}
use Rattle.handover_renewals.specs.RenewalReading.{renewal_in}
use Rattle.handover_renewals.proofs.RenewalTexts.{renewal_again, renewal_found}
use Rattle.handover_renewals.proofs.format.Renewal.read.Goals as goal

pub returns-clause-found : goal.returns-clause-found
returns-clause-found c = if_ok_unless _ _ _ _ c.read_all.ensures.value (λ x e. renewal_found _ x (λ i. omega (arith, c.type_inv.bytes i)) e)

pub returns-clause-only : goal.returns-clause-only
returns-clause-only c x is e m = c.read_all.ensures.value m ∙ ap renewal_in e ∙ renewal_again x is
