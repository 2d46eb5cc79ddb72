use Rattle.std.proofs.Common.{◌∙◌, List, subst}
use Rattle.std.specs.List.{Contains}
use Rattle.certificates.specs.declared.vote.SignedVote.{SignedVote}
use Rattle.audit_evidence.proofs.NamedVotes.{in_joined}
use Rattle.audit_evidence.proofs.named_votes.has_same.Goals as goal

pub returns : goal.returns
returns g c = λ is v has.
    let held = c.in-Some-get.held.now in
    let there = c.in-Some-get.ensures.lookup.3 in
    let same = c.is.ensures.0 is ∙ c.get-2.ensures ∙ there.1 held in
    in_joined c.args.certificates.now c.in-Some.at held v there.0 (subst (λ (votes : List SignedVote). Contains votes v) same has)
