use Rattle.std.proofs.Common.{List, ap, arith, length, refl}
use Rattle.std.proofs.lemmas.List.{same_lists}
use Rattle.certificates.specs.declared.vote.SignedVote.{SignedVote}
use Rattle.audit_evidence.proofs.certificate_votes.CertificateVotes.is.Goals as goal

pub returns : goal.returns
returns c =
    let as_many = ap (λ (vs : List SignedVote). length vs) c.self.view_is in
    let as_many_there = ap (λ (vs : List SignedVote). length vs) c.other.view_is in (
      λ yes. same_lists c.args.self.now c.args.other.now (omega (arith, as_many, as_many_there, c.if-len.false, c.len.ensures, c.len-2.ensures)) (λ i d l. c.loop-k.invariant i d (omega (arith, l, as_many, c.loop-k-test.false, c.len-k-end.ensures))),
      λ is. refl,
    )
