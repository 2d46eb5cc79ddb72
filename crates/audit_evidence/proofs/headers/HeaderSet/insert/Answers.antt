use Rattle.std.proofs.Common.{◌≡◌, List, ap, sym, subst, ◌∙◌, arith}
use Rattle.blocks.specs.Headers.{Header, header_id}
use Rattle.blocks.specs.Chains.{HasNone}
use Rattle.audit_evidence.specs.Evidence.{IsNotBelowParent}
use Rattle.audit_evidence.specs.Gathering.{Gains}
use Rattle.std.specs.BTreeMap.{values}
use Rattle.audit_evidence.proofs.HeaderOrder.{gained_header, still_by_id}
use Rattle.audit_evidence.proofs.headers.HeaderSet.insert.Goals as goal

pub invariant_of-self-2 : goal.invariant_of-self-2
invariant_of-self-2 c =
    let first = ap (λ (h : Header). h.parent_view) (c.block.view_is ∙ c.header-block.ensures ∙ c.get.ensures) in
    let second = ap (λ (h : Header). h.view) (c.block.view_is ∙ c.header-block.ensures ∙ c.get.ensures) in
    let above : IsNotBelowParent c.args.header = omega arith in
    let id_is : c.id.result.now ≡ header_id c.args.header = c.id.ensures ∙ ap header_id c.get-2.ensures in
    still_by_id c.self.inside.headers.entries c.insert.new.self c.id.result.now c.args.header c.self.invariant id_is above c.in_ok-insert.ensures.entries c.insert.ensures.ordered

pub returns-clause-ok : goal.returns-clause-ok
returns-clause-ok c =
    let first = ap (λ (h : Header). h.parent_view) (c.block.view_is ∙ c.header-block.ensures ∙ c.get.ensures) in
    let second = ap (λ (h : Header). h.view) (c.block.view_is ∙ c.header-block.ensures ∙ c.get.ensures) in
    let above : IsNotBelowParent c.args.header = omega arith in
    let id_is : c.id.result.now ≡ header_id c.args.header = c.id.ensures ∙ ap header_id c.get-2.ensures in
    let old = c.self.inside.headers in
    let new = c.insert.new.self in
    let is = still_by_id old.entries new c.id.result.now c.args.header c.self.invariant id_is above c.in_ok-insert.ensures.entries c.insert.ensures.ordered in
    let none = subst (λ (hs : List Header). HasNone hs (header_id c.args.header)) (sym c.self.view_is) c.requires in
    subst (λ (hs : List Header). Gains hs (values new) (λ h. h ≡ c.args.header)) c.self.view_is
    (gained_header old new c.args.header c.self.invariant is none (rw (sym id_is) c.in_ok-insert.ensures.updates))
