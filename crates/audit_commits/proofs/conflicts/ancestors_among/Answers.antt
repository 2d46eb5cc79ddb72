use Rattle.std.proofs.Common.{◌-◌, subst, sym, arith}
use Rattle.std.specs.List.{Contains}
use Rattle.ancestry.specs.Known.{all_of}
use Rattle.audit_commits.proofs.OneChain.{first_above}
use Rattle.audit_commits.proofs.conflicts.ancestors_among.Goals as goal

pub is_ancestor-requires-clause-first : goal.is_ancestor-requires-clause-first
is_ancestor-requires-clause-first c =
    let a = c.index-blocks-count.result in
    subst (Contains (all_of c.args.chains.now)) (sym c.index-blocks-count.is) (c.requires.there (c.loop-count.count - 1) a (omega (arith, c.loop-count-test.true, c.loop-count.invariant)))

pub returns-else-not-is_ancestor-clause-ancestors : goal.returns-else-not-is_ancestor-clause-ancestors
returns-else-not-is_ancestor-clause-ancestors c =
    first_above c.args.chains.now c.args.blocks.now c.loop-count.count c.index-blocks-count.result c.args.b.now c.requires.chain (omega (arith, c.loop-count-test.true)) c.loop-count.invariant
    c.index-blocks-count.is (c.is_ancestor.ensures.0 c.if-not-is_ancestor.false)
