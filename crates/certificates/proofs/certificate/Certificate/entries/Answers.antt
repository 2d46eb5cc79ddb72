use Rattle.std.proofs.Common.{subst}
use Rattle.certificates.specs.Certificates.{IsCertificate}
use Rattle.certificates.proofs.certificate.Certificate.entries.Goals as goal

pub returns-clause-is_certificate : goal.returns-clause-is_certificate
returns-clause-is_certificate c = subst IsCertificate c.self.view_is c.self.invariant
