use Rattle.std.proofs.Common.{arith, subst}
use Rattle.certificates.specs.Certificates.{IsCertificate}
use Rattle.certificates.proofs.certificate.Certificate.write.Goals as goal

pub overflow_cast-len : goal.overflow_cast-len
overflow_cast-len c = let most = c.self.invariant.most in omega (arith, c.len.ensures)

pub returns-clause-is_certificate : goal.returns-clause-is_certificate
returns-clause-is_certificate c = subst IsCertificate c.self.view_is c.self.invariant
