use Rattle.std.proofs.Common.{◌⊎◌, ◌<◌, List, length, inl, inr, subst, sym}
use Rattle.std.specs.List.{Contains}
use Rattle.std.proofs.lemmas.Bool.{iff_false}
use Rattle.blocks.specs.Headers.{Header}
use Rattle.blocks.specs.Chains.{NoCollision}
use Rattle.replica_core.specs.Cores.{Core}
use Rattle.replica_core.specs.Plans.{IsChainOf, HasRoomFor}
use Rattle.replica_core.specs.Tables.{AllDiffer}
use Rattle.replica_core.proofs.Trees.{tree_push}
use Rattle.replica_core.proofs.replica.Core.hold.Goals as goal

pub invariant_of-self : goal.invariant_of-self
invariant_of-self c =
    let b = c.args.block.now in
    let hs = c.self.inside.held.headers in
    let chain = subst (λ (k : Core). (ps : List Header) × IsChainOf k b ps) (sym c.self.view_is) c.requires.chain in
    let place = subst (λ (k : Core). Contains k.headers b ⊎ HasRoomFor k b) (sym c.self.view_is) c.requires.place in
    let fits : length hs < 65536 = elim place [ inl m ↦ absurd (iff_false c.holds.ensures c.if-not-holds.true m) | inr r ↦ r.place ] in
    let apart = subst (λ (xs : List Header). NoCollision xs) c.push_reserved.ensures.headers c.push_reserved.ensures.apart in
    let once = subst (λ (xs : List Header). AllDiffer xs) c.push_reserved.ensures.headers c.push_reserved.ensures.once in
    rw c.push_reserved.ensures.headers (tree_push c.self.inside.genesis hs b chain.0 c.self.invariant apart once chain.1.is_chain chain.1.held fits)
