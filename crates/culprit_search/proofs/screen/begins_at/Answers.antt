use Rattle.std.proofs.Common.{ap, inl, inr, ltb-true, sym, arith}
use Rattle.certificates.specs.declared.vote.SignedVote.{SignedVote}
use Rattle.culprit_search.proofs.Screens.{begins, views_rise}
use Rattle.culprit_search.proofs.screen.begins_at.Goals as goal

pub returns-then-place-eq0 : goal.returns-then-place-eq0
returns-then-place-eq0 c = λ _.
    let own = c.args.own.now in
    let x = c.index-own-place.result in
    begins own c.args.view c.args.place x x (views_rise own c.requires.rising c.requires.by_one) c.requires.place (sym c.index-own-place.is) (omega (arith, c.if-view-get.true, ap (λ (v : SignedVote). v.view) c.get.ensures)) (inl (omega (arith, c.if-place-eq0.true)))

pub returns-else-place-eq0 : goal.returns-else-place-eq0
returns-else-place-eq0 c = λ below.
    let own = c.args.own.now in
    let x = c.index-own-place.result in
    let y = c.index-own-place-else-place-eq0.result in
    begins own c.args.view c.args.place x y (views_rise own c.requires.rising c.requires.by_one) c.requires.place (sym c.index-own-place.is) (omega (arith, c.if-view-get.true, ap (λ (v : SignedVote). v.view) c.get.ensures))
    (inr (sym c.index-own-place-else-place-eq0.is, omega (arith, ltb-true _ _ below, ap (λ (v : SignedVote). v.view) c.get-else-place-eq0.ensures)))
