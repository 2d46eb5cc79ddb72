use Rattle.std.proofs.Common.{sym, arith}
use Rattle.replica_core.proofs.Places.{found}
use Rattle.replica_core.proofs.table.HeaderTable.get.Goals as goal

pub index-requires : goal.index-requires
index-requires c =
    let b = c.self.invariant.back c.args.id.now c.in_ok-place.field-0.now (sym c.in_ok-place.ensures.value) in
    let l = b.1 in
    let n = c.self.inside.headers.ok.0 in
    omega arith

pub returns-clause-found : goal.returns-clause-found
returns-clause-found c =
    rw (← c.self.view_is) (found _ _ c.args.id.now c.in_ok-place.field-0.now c.index.result.now c.self.invariant (sym c.in_ok-place.ensures.value) c.index.ensures)
