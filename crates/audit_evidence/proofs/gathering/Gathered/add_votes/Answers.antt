use Rattle.std.proofs.Common.{subst}
use Rattle.certificates.specs.Certificates.{Certificate}
use Rattle.audit_evidence.specs.Gathering.{Grows, IsNone, CertificateHas, HasOwn}
use Rattle.audit_evidence.proofs.Gatherings.{grown_as, grown_both, on_ok, none_of, same_kind}
use Rattle.audit_evidence.proofs.gathering.Gathered.add_votes.Goals as goal

pub returns : goal.returns
returns g c =
    let e = c.args.entry.now in
    let a = c.args.self.now in
    let b = c.add_own_vote.new.self in
    let d = c.add_certificate.new.self in
    on_ok c.add_certificate.result _ _ (λ step. grown_as a d _ _ _ _ none_of (same_kind _)
    (grown_both a b d IsNone IsNone (HasOwn c.args.replica e) (CertificateHas e.certificate) c.in_ok-add_own_vote.ensures
    (subst (λ (x : Certificate). Grows b d IsNone (CertificateHas x)) c.certificate.ensures.value step))) c.add_certificate.ensures
