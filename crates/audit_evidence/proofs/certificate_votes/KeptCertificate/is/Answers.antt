use Rattle.std.proofs.Common.{◌∙◌, refl, sym}
use Rattle.audit_evidence.proofs.certificate_votes.KeptCertificate.is.Goals as goal

pub returns-then-is : goal.returns-then-is
returns-then-is g c =
    let one = c.if-is.ensures refl c.self.inside.votes c.other.inside.votes c.self.invariant c.other.invariant in
    (λ is. sym c.self.view_is ∙ one ∙ c.other.view_is, λ same. c.if-is.true)
