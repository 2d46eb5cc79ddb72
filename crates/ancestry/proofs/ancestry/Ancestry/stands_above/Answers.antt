use Rattle.std.proofs.Common.{◌≡◌, ◌↔◌, refl, sym, subst, ap, ◌∙◌}
use Rattle.std.proofs.lemmas.Bool.{false≢true}
use Rattle.std.specs.Prelude.{IsTrue}
use Rattle.blocks.specs.Headers.{Header, header_id}
use Rattle.ancestry.specs.Known.{all_of}
use Rattle.ancestry.specs.Links.{header_at, LeadsTo}
use Rattle.ancestry.proofs.Walks.{ancestor_where_led, leads_to_ancestor, not_its_own}
use Rattle.ancestry.proofs.ancestry.Ancestry.stands_above.Goals as goal

pub returns-then-same_id : goal.returns-then-same_id
returns-then-same_id c =
    let known = c.args.self.now in
    let a = header_at known c.args.a in
    let b = header_at known c.args.b in
    let same = sym (ap (λ (h : Header). header_id h) c.header-above.ensures.header) ∙ c.same_id.ensures.0 c.if-same_id.true ∙ ap (λ (h : Header). header_id h) c.header.ensures.header in (
      λ e. absurd (false≢true e),
      λ l. absurd (not_its_own known (header_id b) c.header.ensures.known (a, b, same, refl, l)),
    )

pub returns : goal.returns
returns c =
    let known = c.args.self.now in
    let a = header_at known c.args.a in
    let b = header_at known c.args.b in
    let test = subst (λ (h : Header). IsTrue c.leads_to.result ↔ LeadsTo known b h) c.header-above.ensures.header c.leads_to.ensures in
    let other : a ≡ b → ⊥ = λ same.
    let one = c.header-above.ensures.header ∙ same ∙ sym c.header.ensures.header in
    false≢true (sym c.if-same_id.false ∙ c.same_id.ensures.1 (ap (λ (h : Header). header_id h) one)) in (
      λ t. ancestor_where_led (all_of known) known.genesis a b other (test.0 t) c.requires.linked,
      λ l. test.1 (leads_to_ancestor (all_of known) known.genesis a b l.0 l.1 l.2),
    )
