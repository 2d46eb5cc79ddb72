use Rattle.std.proofs.Common.{◌∙◌, subst, arith}
use Rattle.certificates.specs.declared.vote.SignedVote.{SignedVote}
use Rattle.std.proofs.lemmas.List.Elements.{All-more}
use Rattle.std.proofs.lemmas.List.{get_or_default}
use Rattle.audit_commits.specs.Culprits.{BreakARule}
use Rattle.culprit_search.proofs.VotePairs.{all_passed, least_from}
use Rattle.culprit_search.proofs.pairs.least_against.Goals as goal

pub returns-in-Some : goal.returns-in-Some
returns-in-Some c =
    let own = c.args.own.now in
    let k = c.loop-v.v-index in
    least_from c.args.evidence.now own c.args.w.now k c.get-v.result.now _ c.requires.rising c.loop-v-test.true (c.get-v.ensures ∙ c.v-item.is ∙ get_or_default own k _ _ c.loop-v-test.true) c.loop-v.invariant c.in-Some.ensures

pub loop-v-preserved : goal.loop-v-preserved
loop-v-preserved c = All-more (λ x. BreakARule c.args.evidence.now x c.args.w.now → ⊥) c.args.own.now c.loop-v.v-index c.v-item.result c.loop-v-test.true c.loop-v.invariant (subst (λ (x : SignedVote). BreakARule c.args.evidence.now x c.args.w.now → ⊥) (c.get-v.ensures ∙ c.v-item.is) c.in_default.ensures)

pub returns : goal.returns
returns c = all_passed (λ x. BreakARule c.args.evidence.now x c.args.w.now → ⊥) c.args.own.now c.loop-v.v-index (omega (arith, c.loop-v-test.false)) c.loop-v.invariant
