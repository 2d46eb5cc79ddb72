use Rattle.std.proofs.Common.{◌∙◌, ap, subst}
use Rattle.blocks.specs.Headers.{Header, IsGenesis}
use Rattle.blocks.specs.Replay.{Durable, durable_of, moved_to}
use Rattle.replica_core.specs.Cores.{Core, state_of}
use Rattle.replica_core.proofs.Planned.{voted}
use Rattle.replica_core.proofs.replica.Core.vote.Goals as goal

pub returns-clause-state : goal.returns-clause-state
returns-clause-state c =
    let core = c.args.self.now in
    let b = c.args.block.now in
    let p = c.args.parent.now in
    let d = c.self.inside.durable in
    let is_genesis = subst (λ (k : Core). IsGenesis k.genesis) c.self.view_is c.self.invariant.is_genesis in
    let taken = ap (λ (x : Durable). state_of c.block.inside.view x) c.take.ensures in
    let viewed = ap (λ (h : Header). state_of h.view (moved_to h.view d p)) c.block.view_is in
    let kept = ap (λ (k : Core). state_of b.view (moved_to b.view (durable_of k.state) p)) c.self.view_is in
    λ ps k. taken ∙ viewed ∙ kept ∙ voted c.rules_look_at_the_parent.ensures.lock core.genesis core.state b p is_genesis ps k
