use Rattle.std.proofs.Common.{◌≡◌, ◌∙◌, ◌≤◌, ◌+◌, ◌++◌, ◌∷◌, [], List, Bool, length, arith, rules, sym, subst, take}
use Rattle.std.proofs.lemmas.List.{take_all}
use Rattle.std.specs.List.{AllZip}
use Rattle.certificates.specs.declared.vote.SignedVote.{SignedVote}
use Rattle.certificates.specs.Votes.{IsAnswerOn}
use Rattle.audit_evidence.proofs.Gatherings.{zip_more}
use Rattle.audit_evidence.proofs.evidence.check_each.Goals as goal

pub loop-vote-preserved : goal.loop-vote-preserved
loop-vote-preserved c =
    let committee = c.args.committee.now in
    let i = c.loop-vote.vote-index in
    let pushed : c.push.new.self.items ≡ c.loop-vote.answers.items ++ c.is_good.result ∷ [] = search rules in
    subst (λ (answers : List Bool). AllZip (IsAnswerOn committee) (take (i + 1) c.args.votes.now) answers) (sym pushed)
    (zip_more (IsAnswerOn committee) c.args.votes.now c.loop-vote.answers.items i c.vote-item.result c.is_good.result c.loop-vote-test.true c.loop-vote.invariant
    (subst (λ (v : SignedVote). IsAnswerOn committee v c.is_good.result) (c.get.ensures ∙ c.vote-item.is) c.is_good.ensures))

pub returns : goal.returns
returns c =
    let votes = c.args.votes.now in
    let i = c.loop-vote.vote-index in
    let l : length votes ≤ i = omega (arith, c.loop-vote-test.false) in
    subst (λ (vs : List SignedVote). AllZip (IsAnswerOn c.args.committee.now) vs c.loop-vote.answers.items) (take_all i votes l) c.loop-vote.invariant
