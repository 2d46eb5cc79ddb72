use Rattle.std.proofs.Common.{◌≤◌, length, refl, sym, subst}
use Rattle.ancestry.specs.Known.{Known}
use Rattle.ancestry.specs.Links.{header_at, LeadsTo}
use Rattle.ancestry.proofs.Steps.{with_jump}
use Rattle.ancestry.proofs.ancestry.Ancestry.set_jump.Goals as goal

pub invariant_of-self : goal.invariant_of-self
invariant_of-self c =
    let known : Known = record { genesis = c.self.inside.genesis; headers = c.self.inside.headers.items } in
    let jump = c.jump_of-jump.result.0 in
    let is = sym c.self.view_is in
    let at_in = subst (λ (k : Known). c.args.at ≤ length k.headers) is c.requires.at_in in
    let jump_in = subst (λ (k : Known). jump ≤ length k.headers) is c.jump_of-jump.ensures.jump_in in
    let leads = subst (λ (k : Known). LeadsTo k (header_at k c.args.at) (header_at k jump)) is c.jump_of-jump.ensures.jump in
    with_jump known c.self.inside.links.items c.args.at jump c.index_mut.result.now _ c.self.invariant at_in c.index_mut.ensures.value refl refl jump_in leads
