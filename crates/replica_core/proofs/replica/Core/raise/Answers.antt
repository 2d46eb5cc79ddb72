use Rattle.std.proofs.Common.{◌∙◌, ap, subst}
use Rattle.blocks.specs.Headers.{IsGenesis}
use Rattle.blocks.specs.Replay.{Durable, durable_of, moved_to}
use Rattle.replica_core.specs.Cores.{Core, state_of}
use Rattle.replica_core.proofs.Planned.{raised}
use Rattle.replica_core.proofs.replica.Core.raise.Goals as goal

pub returns-clause-state : goal.returns-clause-state
returns-clause-state c =
    let core = c.args.self.now in
    let b = c.args.block.now in
    let p = c.args.parent.now in
    let is_genesis = subst (λ (k : Core). IsGenesis k.genesis) c.self.view_is c.self.invariant.is_genesis in
    let taken = ap (λ (x : Durable). state_of c.self.inside.vote_view x) c.take.ensures in
    let kept = ap (λ (k : Core). state_of k.state.vote_view (moved_to k.state.stored_vote_view (durable_of k.state) p)) c.self.view_is in
    λ ps k. taken ∙ kept ∙ raised c.rules_look_at_the_parent.ensures.lock core.genesis core.state b p is_genesis ps k
