use Rattle.std.proofs.Common.{◌∙◌, ◌≤◌, subst, arith}
use Rattle.certificates.specs.declared.vote.SignedVote.{SignedVote}
use Rattle.std.proofs.lemmas.List.{get_or_default}
use Rattle.culprit_search.proofs.LockFacts.{one_more_lock}
use Rattle.culprit_search.proofs.Screens.{all_lower}
use Rattle.culprit_search.proofs.locks.join_lower.Goals as goal

pub loop-joined-preserved : goal.loop-joined-preserved
loop-joined-preserved c =
    let own = c.args.own.now in
    let k = c.loop-joined.joined in
    one_more_lock c.args.evidence.now own k c.loop-joined.greatest c.with_lock-greatest.result c.get-in-loop-joined.result.now c.loop-joined-test.true (c.get-in-loop-joined.ensures ∙ c.index-own-joined-in-loop-joined.is ∙ get_or_default own k _ _ c.loop-joined-test.true) c.with_lock-greatest.ensures.kept c.with_lock-greatest.ensures.joined c.loop-joined.invariant

pub returns-else-get-view-clause-lower : goal.returns-else-get-view-clause-lower
returns-else-get-view-clause-lower c =
    all_lower c.args.evidence.now c.args.own.now c.loop-joined.joined c.loop-joined.greatest c.args.view c.index-own-joined.result c.requires.rising c.requires.by_one c.loop-joined.invariant
    (λ there. subst (λ (v : SignedVote). c.args.view ≤ v.view) (c.get.ensures ∙ c.index-own-joined.is) c.if-get-view.false)

pub returns-after-loop-joined-clause-lower : goal.returns-after-loop-joined-clause-lower
returns-after-loop-joined-clause-lower c =
    λ v there. all_lower c.args.evidence.now c.args.own.now c.loop-joined.joined c.loop-joined.greatest c.args.view v c.requires.rising c.requires.by_one c.loop-joined.invariant
    (λ more. absurd (omega (arith, c.loop-joined-test.false))) v there
