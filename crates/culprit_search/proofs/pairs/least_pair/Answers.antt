use Rattle.std.proofs.Common.{◌∙◌, subst, arith}
use Rattle.std.proofs.lemmas.List.Elements.{All-more, All-nil}
use Rattle.std.proofs.lemmas.List.{get_or_default}
use Rattle.culprit_search.specs.Searches.{NoneBreaksWith}
use Rattle.culprit_search.proofs.LockFacts.{none_looked_at}
use Rattle.culprit_search.proofs.VotePairs.{all_passed, least_pair_from}
use Rattle.culprit_search.proofs.pairs.least_pair.Goals as goal
use Rattle.culprit_search.proofs.pairs.least_pair.Goals.{then-may_break+in_default, else-may_break}

pub returns-in-Some : goal.returns-in-Some
returns-in-Some c =
    let own = c.args.own.now in
    let k = c.loop-w.w-index in
    least_pair_from c.args.evidence.now own c.get-w.result.now k c.in-Some.offence c.requires.rising c.loop-w-test.true (c.get-w.ensures ∙ c.w-item.is ∙ get_or_default own k _ _ c.loop-w-test.true) c.loop-w.invariant.0 c.in-Some.ensures

pub loop-w-init : goal.loop-w-init
loop-w-init c = (All-nil (NoneBreaksWith c.args.evidence.now c.args.own.now), none_looked_at c.args.evidence.now c.args.own.now c.none-locks.result c.none-locks.ensures)

pub loop-w-preserved : goal.loop-w-preserved
loop-w-preserved c =
    let e = c.args.evidence.now in
    let own = c.args.own.now in
    let k = c.loop-w.w-index in
    let same = c.get-w.ensures ∙ c.w-item.is in
    elim c.if-may_break.branch [
      | then-may_break+in_default w ↦ (All-more (NoneBreaksWith e own) own k c.w-item.result c.loop-w-test.true c.loop-w.invariant.0 (subst (NoneBreaksWith e own) same w.in_default.ensures), c.join_lower-locks.ensures.joined)
      | else-may_break w ↦ (All-more (NoneBreaksWith e own) own k c.w-item.result c.loop-w-test.true c.loop-w.invariant.0 (subst (NoneBreaksWith e own) same (c.may_break.ensures w.if-may_break.false)), c.join_lower-locks.ensures.joined)
    ]

pub returns : goal.returns
returns c = all_passed (NoneBreaksWith c.args.evidence.now c.args.own.now) c.args.own.now c.loop-w.w-index (omega (arith, c.loop-w-test.false)) c.loop-w.invariant.0
