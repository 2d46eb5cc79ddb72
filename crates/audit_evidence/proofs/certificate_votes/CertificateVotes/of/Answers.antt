use Rattle.std.proofs.Common.{arith}
use Rattle.audit_evidence.proofs.NamedVotes.{votes_in_order}
use Rattle.audit_evidence.proofs.certificate_votes.CertificateVotes.of.Goals as goal

pub returns : goal.returns
returns g c =
    let all = c.loop-k.invariant in
    votes_in_order c.args.certificate.now c.loop-k.votes.items (omega (arith, all.0, c.loop-k-test.false, c.loop-k.auto.k-end, c.count-k-end.ensures.value))
    (λ i d l. all.1 i d (omega (arith, l, all.0)))
