use Rattle.std.proofs.Common.{List, subst, arith}
use Rattle.std.proofs.lemmas.List.{take_all}
use Rattle.std.specs.List.{Contains}
use Rattle.certificates.specs.declared.vote.SignedVote.{SignedVote}
use Rattle.audit_evidence.specs.Gathering.{Grows, IsNone}
use Rattle.audit_evidence.specs.NamedVotes.{joined}
use Rattle.audit_evidence.proofs.Absorbing.{votes_start}
use Rattle.audit_evidence.proofs.NamedVotes.{lists_more}
use Rattle.audit_evidence.proofs.gathering.Gathered.absorb_certificates.Goals as goal

pub loop-certificate-init : goal.loop-certificate-init
loop-certificate-init g c = votes_start c.args.self.now

pub loop-certificate-preserved : goal.loop-certificate-preserved
loop-certificate-preserved g c =
    let x = c.certificate-item.result in
    let step = subst (λ (w : List SignedVote). Grows c.loop-certificate.self c.add_votes_of.new.self IsNone (Contains w)) c.in_ok-again.ensures c.in_ok-add_votes_of.ensures in
    lists_more c.args.self.now c.loop-certificate.self c.add_votes_of.new.self c.args.certificates.now c.loop-certificate.certificate-index x x c.loop-certificate-test.true c.certificate-item.is c.loop-certificate.invariant step

pub returns : goal.returns
returns g c =
    subst (λ (lists : List (List SignedVote)). Grows c.args.self.now c.loop-certificate.self IsNone (Contains (joined lists))) (take_all c.loop-certificate.certificate-index c.args.certificates.now (omega (arith, c.loop-certificate-test.false))) c.loop-certificate.invariant
