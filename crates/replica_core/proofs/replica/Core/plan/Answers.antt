use Rattle.std.proofs.Common.{List, ◌∷◌, subst}
use Rattle.blocks.specs.Chains.{IsChain}
use Rattle.blocks.specs.Headers.{Header}
use Rattle.replica_core.specs.Plans.{IsActOn}
use Rattle.replica_core.proofs.Planned.{plan_from, place_from}
use Rattle.replica_core.proofs.replica.Core.plan.Goals as goal

pub returns-clause-plan : goal.returns-clause-plan
returns-clause-plan c =
    let core = c.args.self.now in
    let p = c.args.parent.now in
    let act = c.act_for.result in
    let acts =
    subst (λ (b : Header). (ps : List Header) → IsChain core.genesis b (p ∷ ps) → IsActOn core.genesis core.state b (p ∷ ps) act) c.header.ensures c.act_for.ensures in
    plan_from core _ c.requires.held c.requires.names c.requires.older acts c.committed_by.ensures
    (place_from core c.args.block.now c.requires.admissible c.requires.room)
