use Rattle.std.proofs.Common.{◌≡◌, ◌↔◌, subst, ap, ◌∙◌, arith}
use Rattle.std.specs.Prelude.{IsTrue}
use Rattle.blocks.specs.Headers.{Header, header_id}
use Rattle.ancestry.specs.Links.{header_at, LeadsTo}
use Rattle.ancestry.proofs.Ids.{apart, at_known}
use Rattle.ancestry.proofs.Steps.{leads_home, leads_on}
use Rattle.ancestry.proofs.ancestry.Ancestry.leads_to.Goals as goal

pub loop-next-init : goal.loop-next-init
loop-next-init c = record {
  at_in = c.requires.from_in;
  leads = leads_home c.args.self.now c.args.from;
  past_none = λ l. l;
}

pub loop-next-preserved : goal.loop-next-preserved
loop-next-preserved c =
    let known = c.args.self.now in
    let step = c.in-Some.ensures in
    let here = c.loop-next.invariant in
    let view = ap (λ (h : Header). h.view) (c.behind-a.view_is ∙ c.header.ensures) in
    record {
      at_in = step.next_in;
      leads = leads_on known c.args.from c.loop-next.at c.in-Some.next here.leads step.leads;
      past_none = λ l. step.past_none c.args.a.now (omega arith) (here.past_none l);
    }

pub returns : goal.returns
returns c =
    let known = c.args.self.now in
    let is = c.header-2.ensures.known in
    let last = header_at known c.loop-next.at in
    let a = c.args.a.now in
    let here = c.loop-next.invariant in
    let view = ap (λ (h : Header). h.view) (c.behind-a.view_is ∙ c.header.ensures) in
    let test = subst (λ (h : Header). IsTrue c.same_id.result ↔ (header_id h ≡ header_id a)) c.header-2.ensures.header c.same_id.ensures in (
      λ t. subst (λ (h : Header). LeadsTo known (header_at known c.args.from) h) (apart known is last a (at_known known c.loop-next.at) c.requires.there (test.0 t)) here.leads,
      λ l. test.1 (ap (λ (h : Header). header_id h) (c.in_default.ensures a (omega arith) (here.past_none l))),
    )
