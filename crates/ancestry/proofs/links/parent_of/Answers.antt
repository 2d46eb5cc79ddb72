use Rattle.std.proofs.Common.{◌≡◌, ◌↔◌, ◌<◌, inr, ap, subst, ◌∙◌, arith}
use Rattle.std.specs.Prelude.{IsTrue}
use Rattle.blocks.specs.Headers.{Header, header_id}
use Rattle.ancestry.specs.Known.{Known, all_of}
use Rattle.ancestry.specs.Links.{header_at}
use Rattle.ancestry.proofs.Ids.{apart, at_known}
use Rattle.ancestry.proofs.Walks.{not_parent}
use Rattle.ancestry.proofs.links.parent_of.Goals as goal

pub returns-else-has_parent_view-clause-parent : goal.returns-else-has_parent_view-clause-parent
returns-else-has_parent_view-clause-parent c =
    let known : Known = record { genesis = c.args.genesis.now; headers = c.args.headers.now } in
    let b = header_at known c.args.at in
    let p = header_at known c.in-Some.p in
    let is_b : c.header-b.result.now ≡ b = c.header-b.ensures ∙ c.header_at.ensures in
    let is_p : c.header.result.now ≡ p = c.header.ensures ∙ c.header_at-2.ensures in
    let named : header_id p ≡ b.parent = c.in-Some.ensures.1 ∙ ap (λ (h : Header). h.parent) (c.b.view_is ∙ is_b) in
    let test = subst (λ (h : Header). IsTrue c.has_parent_view.result ↔ ((h.parent_view ≡ p.view) × (p.view < h.view))) is_b
    (subst (λ (h : Header). IsTrue c.has_parent_view.result ↔ ((c.header-b.result.now.parent_view ≡ h.view) × (h.view < c.header-b.result.now.view))) is_p c.has_parent_view.ensures) in
    inr (not_parent (all_of known) b p c.has_parent_view.result (apart known c.requires.known) (at_known known c.in-Some.p) named test c.if-has_parent_view.false, omega arith)
