use Rattle.std.proofs.Common.{List, ℕ, refl, inr, sym, subst, ◌∙◌}
use Rattle.std.specs.Prelude.{MatchOption}
use Rattle.blocks.specs.Chains.{HasNone}
use Rattle.replica_core.specs.Tables.{HasId}
use Rattle.replica_core.proofs.Places.{some_found}
use Rattle.replica_core.proofs.table.HeaderTable.add_first.Goals as goal

pub returns-then-is_some-clause-ok : goal.returns-then-is_some-clause-ok
returns-then-is_some-clause-ok c =
    let hs = c.args.self.now.headers in
    let found = subst (λ (id : List ℕ). MatchOption c.get.result (HasNone hs id) (λ h. HasId hs id h.now)) c.id.ensures c.get.ensures.found in
    inr (some_found hs _ (λ h. h.now) c.get.result (sym c.is_some.ensures ∙ c.if-is_some.true) found, refl)
