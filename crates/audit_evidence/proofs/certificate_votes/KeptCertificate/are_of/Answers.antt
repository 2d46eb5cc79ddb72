use Rattle.std.proofs.Common.{◌≡◌, ◌↔◌, ◌∙◌, List, subst}
use Rattle.std.specs.Prelude.{IsTrue}
use Rattle.certificates.specs.declared.vote.SignedVote.{SignedVote}
use Rattle.audit_evidence.specs.NamedVotes.{certificate_votes}
use Rattle.audit_evidence.proofs.certificate_votes.KeptCertificate.are_of.Goals as goal

pub returns : goal.returns
returns g c =
    subst (λ (votes : List SignedVote). IsTrue c.are_of.result ↔ (votes ≡ certificate_votes c.args.certificate.now)) (c.get.ensures ∙ c.self.view_is) c.are_of.ensures
