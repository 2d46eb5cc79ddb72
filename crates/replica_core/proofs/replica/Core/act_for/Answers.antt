use Rattle.std.proofs.Common.{arith, ap, subst}
use Rattle.std.proofs.lemmas.Bool.{iff_false}
use Rattle.blocks.specs.Headers.{Header, IsGenesis}
use Rattle.replica_core.specs.Cores.{Core}
use Rattle.replica_core.proofs.replica.Core.act_for.Goals as goal

pub returns-else-lock-parent : goal.returns-else-lock-parent
returns-else-lock-parent c =
    let core = c.args.self.now in
    let b = c.args.block.now in
    let p = c.args.parent.now in
    let law = c.rules_look_at_the_parent.ensures in
    let is_genesis = subst (λ (k : Core). IsGenesis k.genesis) c.self.view_is c.self.invariant.is_genesis in
    let lock = c.lock.ensures.view in
    let locked = ap (λ (k : Core). k.state.lock_view) c.self.view_is in
    let named = ap (λ (h : Header). h.parent_view) c.parent.view_is in
    let old = c.if-lock-parent.false in
    λ ps k. (
      λ a. iff_false c.may_vote.ensures c.if-may_vote.false (a.1, (law.vote core.genesis core.state b p ps k).0 a.2),
      λ a. (let younger = (law.raise core.genesis core.state b p ps is_genesis k).0 a.1 in omega arith),
    )
