use Rattle.std.proofs.Common.{◌≡◌, ℕ, ◌+◌, length, take, get_or, subst, sym, arith}
use Rattle.std.proofs.lemmas.List.{get_or-take, length-take-le}
use Rattle.std.specs.List.{Contains}
use Rattle.ancestry.specs.Known.{all_of}
use Rattle.audit_commits.proofs.OneChain.{IsTrunkBelow, chain_of_trunk, longer_trunk, shorter_trunk}
use Rattle.audit_commits.proofs.conflicts.trunk_length.Goals.{then-shared-k, else-shared-k}
use Rattle.audit_commits.proofs.conflicts.trunk_length.Goals as goal

pub ancestors_among-shared-requires-clause-there : goal.ancestors_among-shared-requires-clause-there
ancestors_among-shared-requires-clause-there c i d below =
    let bs = c.args.blocks.now in
    let n = c.loop-k.trunk in
    let len : length (take n bs) ≡ n = length-take-le n bs (omega (arith, c.loop-k.invariant.within, c.loop-k-test.true)) in
    let placed : get_or (take n bs) i d ≡ get_or bs i d = get_or-take n bs i d (omega arith) in
    subst (Contains (all_of c.args.chains.now)) (sym placed) (c.requires.there i d (omega (arith, c.loop-k.invariant.within, c.loop-k-test.true)))

pub ancestors_among-shared-requires-clause-other : goal.ancestors_among-shared-requires-clause-other
ancestors_among-shared-requires-clause-other c =
    let b = c.index-blocks-k.result in
    subst (Contains (all_of c.args.chains.now)) (sym c.index-blocks-k.is) (c.requires.there c.loop-k.k b c.loop-k-test.true)

pub ancestors_among-shared-requires-clause-chain : goal.ancestors_among-shared-requires-clause-chain
ancestors_among-shared-requires-clause-chain c =
    chain_of_trunk c.args.chains.now c.args.blocks.now c.loop-k.trunk c.loop-k.k c.loop-k.invariant.within (omega (arith, c.loop-k-test.true)) c.loop-k.invariant.trunk

pub loop-k-init : goal.loop-k-init
loop-k-init c = record { within = omega arith; trunk = λ i j d first less below. absurd (omega (arith, first)) }

pub loop-k-preserved : goal.loop-k-preserved
loop-k-preserved c =
    let known = c.args.chains.now in
    let bs = c.args.blocks.now in
    let n = c.loop-k.trunk in
    let k = c.loop-k.k in
    let s = c.ancestors_among-shared.result in
    let b = c.index-blocks-k.result in
    let got = c.ancestors_among-shared.ensures in
    let inv = c.loop-k.invariant in
    let len : length (take n bs) ≡ n = length-take-le n bs (omega (arith, inv.within, c.loop-k-test.true)) in
    elim c.if-shared-k.branch [
      | then-shared-k w ↦ record {
        within = omega (arith, w.trunk-is);
        trunk = subst (λ (m : ℕ). IsTrunkBelow known bs m (k + 1)) (sym w.trunk-is) (longer_trunk known bs n s k b inv.within c.loop-k-test.true c.index-blocks-k.is got.at_most got.ancestors inv.trunk w.if-shared-k.true);
      }
      | else-shared-k w ↦ record {
        within = omega (arith, w.trunk-is, got.at_most, len, inv.within);
        trunk = subst (λ (m : ℕ). IsTrunkBelow known bs m (k + 1)) (sym w.trunk-is) (shorter_trunk known bs n s k b inv.within c.loop-k-test.true c.index-blocks-k.is got.at_most got.ancestors inv.trunk);
      }
    ]

pub returns-clause-at_most : goal.returns-clause-at_most
returns-clause-at_most c = omega (arith, c.loop-k.invariant.within, c.loop-k.auto)

pub returns-clause-trunk : goal.returns-clause-trunk
returns-clause-trunk c i j d first less below = c.loop-k.invariant.trunk i j d first less (omega (arith, below, c.loop-k-test.false))
