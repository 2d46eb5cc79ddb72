use Rattle.std.proofs.Common.{◌↔◌, List, subst, sym}
use Rattle.std.specs.List.{Contains}
use Rattle.certificates.specs.declared.vote.SignedVote.{SignedVote}
use Rattle.audit_evidence.specs.Gathering.{CertificateHas, IsNone}
use Rattle.audit_evidence.proofs.Gatherings.{grown_as, on_ok, same_kind}
use Rattle.audit_evidence.proofs.NamedVotes.{among_votes}
use Rattle.audit_evidence.proofs.gathering.Gathered.add_certificate.Goals as goal

pub returns : goal.returns
returns g c =
    let votes = c.in_ok-certificate.field-0 in
    let certificate = c.args.certificate.now in
    let same = subst (λ (vs : List SignedVote). (v : SignedVote) → Contains vs v ↔ CertificateHas certificate v) (sym c.in_ok-certificate.ensures) (among_votes certificate) in
    on_ok c.add_votes_of.result _ _ (grown_as c.args.self.now c.add_votes_of.new.self IsNone IsNone (Contains votes) (CertificateHas certificate) (same_kind IsNone) same) c.add_votes_of.ensures
