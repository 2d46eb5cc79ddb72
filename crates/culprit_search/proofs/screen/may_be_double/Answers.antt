use Rattle.std.proofs.Common.{◌∙◌, ◌<◌, ◌-◌, length, sym, ap, arith}
use Rattle.std.proofs.lemmas.List.{get_or_default}
use Rattle.certificates.specs.declared.vote.SignedVote.{SignedVote}
use Rattle.culprit_search.proofs.Screens.{all_on_one, none_of_view, same_ids}
use Rattle.culprit_search.proofs.screen.may_be_double.Goals as goal

pub returns-else-ne : goal.returns-else-ne
returns-else-ne c = λ same.
    let own = c.args.own.now in
    let start = c.places_of-start.result.0 in
    let end = c.places_of-start.result.1 in
    let d = c.index-own-start.result in
    let within = c.places_of-start.ensures.within in
    let some = c.if-start-end.true in
    let inside : end - 1 < length own = omega (arith, some, within) in
    let first = ap (λ (v : SignedVote). v.id) (sym (c.get.ensures ∙ c.index-own-start.is)) ∙ same_ids _ _ _ c.ne.ensures c.if-ne.false in
    let last = ap (λ (v : SignedVote). v.id) (get_or_default own (end - 1) d _ inside ∙ sym (c.get-else-ne.ensures ∙ c.index-own-end.is)) ∙ same_ids _ _ _ c.ne-else-ne.ensures same in
    all_on_one own c.args.w.now start end d c.requires.rising c.requires.by_one c.places_of-start.ensures first last

pub returns-else-start-end : goal.returns-else-start-end
returns-else-start-end c = λ same. none_of_view c.args.own.now c.args.w.now _ _ c.places_of-start.ensures (omega (arith, c.if-start-end.false))
