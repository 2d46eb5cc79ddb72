use Rattle.std.proofs.Common.{◌≤◌, length, sym, subst}
use Rattle.ancestry.specs.Known.{Known}
use Rattle.ancestry.specs.Links.{IsLink}
use Rattle.ancestry.proofs.Steps.{link_is}
use Rattle.ancestry.proofs.ancestry.Ancestry.link.Goals as goal

pub returns-clause-link : goal.returns-clause-link
returns-clause-link c =
    let known : Known = record { genesis = c.self.inside.genesis; headers = c.self.inside.headers.items } in
    let inside = subst (λ (k : Known). c.args.at ≤ length k.headers) (sym c.self.view_is) c.requires in
    subst (λ (k : Known). IsLink k c.args.at c.index.result.now) c.self.view_is
    (link_is known c.self.inside.links.items c.args.at c.index.result.now c.self.invariant inside c.index.ensures)
