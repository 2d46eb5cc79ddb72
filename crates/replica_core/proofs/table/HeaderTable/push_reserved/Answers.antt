use Rattle.std.proofs.Common.{◌<◌, sym, ap, subst, arith, ◌∙◌}
use Rattle.std.specs.HashMap.{spare}
use Rattle.blocks.specs.Headers.{header_id}
use Rattle.blocks.specs.Chains.{HasNone}
use Rattle.replica_core.specs.Tables.{HeaderTable}
use Rattle.replica_core.proofs.Places.{pushed_at, from_ok, no_collision, all_differ}
use Rattle.replica_core.proofs.table.HeaderTable.push_reserved.Goals as goal

pub invariant_of-self : goal.invariant_of-self
invariant_of-self c =
    let room = c.requires.room in
    let is = ap (λ (t : HeaderTable). t.room) c.self.view_is in
    let spared : 0 < spare c.self.inside.places = omega arith in
    let updates = from_ok c.insert.result (c.insert.ensures.succeeds spared) c.insert.ensures.updates in
    let none = subst (λ (t : HeaderTable). HasNone t.headers (header_id c.args.header.now)) (sym c.self.view_is) c.requires.new_id in
    rw (c.push_reserved.ensures.items, c.header.ensures) (pushed_at _ c.args.header.now _ _ _ _ c.self.invariant none c.id.ensures (c.len.ensures ∙ c.self.inside.headers.ok.0) updates.0)

pub returns-clause-apart : goal.returns-clause-apart
returns-clause-apart c = no_collision _ _ (invariant_of-self c)

pub returns-clause-once : goal.returns-clause-once
returns-clause-once c = all_differ _ _ (invariant_of-self c)
