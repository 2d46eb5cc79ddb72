use Rattle.std.proofs.Common.{List, ap, arith, length, refl}
use Rattle.certificates.specs.declared.vote.SignedVote.{SignedVote}
use Rattle.audit_evidence.proofs.NamedVotes.{votes_in_order}
use Rattle.audit_evidence.proofs.certificate_votes.CertificateVotes.are_of.Goals as goal

pub returns : goal.returns
returns c =
    let votes = c.args.self.now in
    let as_many = ap (λ (vs : List SignedVote). length vs) c.self.view_is in (
      λ yes. votes_in_order c.args.certificate.now votes (omega (arith, as_many, c.if-len-count.false, c.len.ensures, c.count.ensures.value)) (λ i d l. c.loop-k.invariant i d (omega (arith, l, as_many, c.loop-k-test.false, c.len-k-end.ensures))),
      λ is. refl,
    )
