use Rattle.std.proofs.Common.{◌∙◌, List, sym, subst, arith}
use Rattle.std.proofs.lemmas.List.{take_all}
use Rattle.std.specs.List.{Contains}
use Rattle.certificates.specs.declared.vote.SignedVote.{SignedVote}
use Rattle.audit_evidence.specs.Gathering.{Gains}
use Rattle.audit_evidence.specs.NamedVotes.{AreSame, joined}
use Rattle.audit_evidence.proofs.NamedVotes.{gained_list, if_ok, same_all}
use Rattle.audit_evidence.proofs.named_votes.NamedVotes.into_vec.Goals as goal

pub loop-certificate-preserved : goal.loop-certificate-preserved
loop-certificate-preserved g c =
    let x = c.certificate-item.result in
    let step = subst (λ (votes : List SignedVote). Gains c.loop-certificate.votes c.add_all.new.votes (Contains votes)) (c.votes.ensures ∙ c.get.ensures) c.in_ok-add_all.ensures in
    gained_list c.self.inside.alone c.loop-certificate.votes c.add_all.new.votes c.deref-certificate-items.result.now c.loop-certificate.certificate-index x x c.loop-certificate-test.true c.certificate-item.is c.loop-certificate.invariant step

pub returns-clause-votes : goal.returns-clause-votes
returns-clause-votes g c =
    let alone = c.self.inside.alone in
    let votes = c.loop-certificate.votes in
    let all = c.self.inside.certificates.items in
    let gains =
    subst (λ (lists : List (List SignedVote)). Gains alone votes (Contains (joined lists)))
    (take_all c.loop-certificate.certificate-index c.deref-certificate-items.result.now (omega (arith, c.loop-certificate-test.false)) ∙ c.deref-certificate-items.ensures.value) c.loop-certificate.invariant in
    if_ok c.into_rising.result _ _ (λ list is.
    subst (λ (vs : List SignedVote). AreSame vs c.args.self) (sym is)
    (subst (λ (vs : List SignedVote). AreSame votes vs) c.self.view_is (same_all alone votes all gains))) c.into_rising.ensures.votes
