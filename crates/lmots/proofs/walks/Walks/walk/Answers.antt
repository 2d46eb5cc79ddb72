use Rattle.std.proofs.Common.{◌<◌, ◌∙◌, slice_index, refl, arith}
use Rattle.lmots.proofs.WalkLemmas.{gone_on}
use Rattle.lmots.proofs.walks.Walks.walk.Goals as goal

pub walk_eight-ends-requires : goal.walk_eight-ends-requires
walk_eight-ends-requires c l lt = omega (arith, (c.requires.left l lt).1, c.numbers_of-from.ensures l lt)

pub overflow_add-self : goal.overflow_add-self
overflow_add-self c =
    let l = c.loop-l.l in
    omega (arith, (c.requires.left l (omega arith)).1, c.numbers_of-from.ensures l (omega arith))

pub loop-l-preserved : goal.loop-l-preserved
loop-l-preserved c =
    let l = c.loop-l.l in
    let chain = slice_index c.args.chains.now l in
    let inside : l < 8 = omega arith in
    let left = (c.requires.left l inside).0 in
    let from = c.numbers_of-from.ensures l inside in
    gone_on _ c.loop-l.self chain _ _ (c.requires.chains l inside) c.loop-l.invariant (omega (arith, from))
    (omega (arith, from, left, c.requires.some))
    (c.walk_eight-ends.ensures l inside
    ∙ rw (c.prefixes_of-prefixes.ensures l inside, c.values_of-starts.ensures l inside, from) refl)
