use Rattle.std.proofs.Common.{arith, ap, ◌∙◌}
use Rattle.certificates.specs.CertificateReading.{certificate_in}
use Rattle.certificates.proofs.CertificateLaws.{certificate_found, certificate_again, if_ok_unless}
use Rattle.certificates.proofs.certificate.Certificate.read.Goals as goal

pub returns-clause-found : goal.returns-clause-found
returns-clause-found c = if_ok_unless _ _ _ _ c.read_all.ensures.value (λ x e. certificate_found _ x (λ i. omega (arith, c.type_inv.bytes i)) e)

pub returns-clause-only : goal.returns-clause-only
returns-clause-only c x is e m = c.read_all.ensures.value m ∙ ap certificate_in e ∙ certificate_again x is
