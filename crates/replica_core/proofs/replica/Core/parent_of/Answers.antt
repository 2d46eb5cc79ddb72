use Rattle.std.proofs.Common.{◌≡◌, List, ℕ, ap, subst, rules}
use Rattle.std.specs.Prelude.{MatchOption}
use Rattle.blocks.specs.Headers.{Header}
use Rattle.blocks.specs.Chains.{HasNone}
use Rattle.replica_core.specs.Tables.{HasId}
use Rattle.replica_core.proofs.Trees.{parent_found}
use Rattle.replica_core.proofs.replica.Core.parent_of.Goals as goal

pub returns-clause-parent : goal.returns-clause-parent
returns-clause-parent c =
    let core = c.args.self.now in
    let h = c.args.header.now in
    let other : h ≡ core.genesis → ⊥ = search rules in
    let parent = ap (λ (k : Header). k.parent) c.header.view_is in
    let found = subst (λ (id : List ℕ). MatchOption c.find.result (HasNone core.headers id) (λ p. HasId core.headers id p.now)) parent c.find.ensures.found in
    parent_found core h (λ p. p.now) c.find.result c.find.ensures.tree c.requires other found
