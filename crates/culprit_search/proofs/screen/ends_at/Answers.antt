use Rattle.std.proofs.Common.{ap, inl, inr, ltb-true, sym, arith}
use Rattle.certificates.specs.declared.vote.SignedVote.{SignedVote}
use Rattle.culprit_search.proofs.Screens.{ends, views_rise}
use Rattle.culprit_search.proofs.screen.ends_at.Goals as goal

pub returns-then-place-own : goal.returns-then-place-own
returns-then-place-own c = λ _.
    let own = c.args.own.now in
    let x = c.index-own-place.result in
    ends own c.args.view c.args.place x x (views_rise own c.requires.rising c.requires.by_one) c.requires.place.0 c.requires.place.1 (sym c.index-own-place.is) (omega (arith, c.if-get-view.true, ap (λ (v : SignedVote). v.view) c.get.ensures)) (inl (omega (arith, c.if-place-own.true)))

pub returns-else-place-own : goal.returns-else-place-own
returns-else-place-own c = λ above.
    let own = c.args.own.now in
    let x = c.index-own-place.result in
    let y = c.index-own-place-else-place-own.result in
    ends own c.args.view c.args.place x y (views_rise own c.requires.rising c.requires.by_one) c.requires.place.0 c.requires.place.1 (sym c.index-own-place.is) (omega (arith, c.if-get-view.true, ap (λ (v : SignedVote). v.view) c.get.ensures))
    (inr (sym c.index-own-place-else-place-own.is, omega (arith, ltb-true _ _ above, ap (λ (v : SignedVote). v.view) c.get-else-place-own.ensures)))
