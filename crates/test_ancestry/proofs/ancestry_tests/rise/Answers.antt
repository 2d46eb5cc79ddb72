use Rattle.std.proofs.Common.{◌-◌, get_or, ◌∙◌, subst, arith}
use Rattle.std.proofs.lemmas.List.{get_or_default}
use Rattle.blocks.specs.Headers.{Header}
use Rattle.blocks.specs.Headers.{HasLowerId}
use Rattle.test_ancestry.proofs.Rising.{rises_more}
use Rattle.test_ancestry.proofs.ancestry_tests.rise.Goals as goal

pub loop-k-preserved : goal.loop-k-preserved
loop-k-preserved c =
    let hs = c.args.headers.now in
    let k = c.loop-k.k in
    rises_more hs k (omega arith) c.loop-k.invariant (λ d.
    subst (λ (h : Header). HasLowerId h (get_or hs k d)) (c.index-headers-k.is ∙ get_or_default hs (k - 1) c.index-headers-k.result d (omega arith))
    (subst (λ (h : Header). HasLowerId c.index-headers-k.result h) (c.index-headers-k-in-loop-k.is ∙ get_or_default hs k c.index-headers-k-in-loop-k.result d (omega arith)) (c.is_lower.ensures c.if-not-is_lower.false)))
