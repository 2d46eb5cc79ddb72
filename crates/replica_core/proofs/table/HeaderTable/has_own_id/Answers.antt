use Rattle.std.proofs.Common.{◌≡◌, ◌∙◌, rules}
use Rattle.std.specs.Prelude.{◌↔◌, IsTrue}
use Rattle.blocks.specs.Headers.{header_id}
use Rattle.replica_core.specs.Tables.{HasId}
use Rattle.replica_core.proofs.Trees.{one_of_id}
use Rattle.replica_core.proofs.table.HeaderTable.has_own_id.Goals as goal

pub returns-in-Some : goal.returns-in-Some
returns-in-Some c =
    let hs = c.args.self.now.headers in
    let header = c.args.header.now in
    let held = c.in-Some.held.now in
    let is : IsTrue c.eq.result ↔ (held ≡ header) = search rules in
    let found : HasId hs (header_id header) held = search rules in
    (λ t h n. one_of_id hs (header_id header) held h c.get.ensures.apart found n ∙ is.0 t, λ own. is.1 (own held found))
