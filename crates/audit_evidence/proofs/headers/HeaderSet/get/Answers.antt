use Rattle.std.proofs.Common.{◌≡◌, ℕ, List, Option, Some, None, Bor, sym, subst}
use Rattle.std.specs.Prelude.{MatchOption}
use Rattle.std.specs.Option.{option_copied}
use Rattle.std.specs.List.{Contains}
use Rattle.std.specs.BTreeMap.{BTreeMap, get, values}
use Rattle.blocks.specs.Headers.{Header, header_id}
use Rattle.blocks.specs.Chains.{HasNone}
use Rattle.audit_evidence.specs.Keyed.{AreById}
use Rattle.audit_evidence.proofs.HeaderOrder.{id_cmp, found, none_found}
use Rattle.audit_evidence.proofs.headers.HeaderSet.get.Goals as goal

as_found : (m : BTreeMap (List ℕ) Header) (hs : List Header) (id : List ℕ) (r : Option (Bor Header)) → AreById m.entries → values m ≡ hs
    → option_copied r ≡ get id_cmp m id → MatchOption r (HasNone hs id) (λ h. Contains hs h.now × (header_id h.now ≡ id))
as_found m hs id None are is e = subst (λ (xs : List Header). HasNone xs id) is (none_found m are id (sym e))
as_found m hs id (Some h) are is e = subst (λ (xs : List Header). Contains xs h.now × (header_id h.now ≡ id)) is (found m are id h.now (sym e))

pub returns : goal.returns
returns c = as_found c.self.inside.headers c.args.self.now c.args.id.now c.get.result c.self.invariant c.self.view_is c.get.ensures.value
