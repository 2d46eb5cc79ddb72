use Rattle.std.proofs.Common.{List, [], ◌∷◌, length, sym, ap, subst, arith, length-append}
use Rattle.ancestry.specs.Known.{Known}
use Rattle.ancestry.specs.Links.{AreLinks}
use Rattle.ancestry.specs.declared.links.ChainLink.{ChainLink}
use Rattle.ancestry.proofs.Steps.{leads_home, links_push}
use Rattle.ancestry.proofs.links.links_of.Goals as goal

pub loop-at-preserved : goal.loop-at-preserved
loop-at-preserved c =
    let known : Known = record { genesis = c.args.genesis.now; headers = c.args.headers.now } in
    let at = c.loop-at.at in
    let parent = c.parent_of-parent.ensures in
    let link : ChainLink = record { parent = c.parent_of-parent.result; jump = at } in
    let here = c.loop-at.invariant in
    let items = c.in_ok-push.ensures.items in
    record {
      count = omega (arith, ap (λ (ls : List ChainLink). length ls) items, length-append c.loop-at.links.items (link ∷ []));
      each = subst (λ (ls : List ChainLink). AreLinks known ls) (sym items)
          (links_push known c.loop-at.links.items at link here.count here.each (record {
            parent_in = parent.parent_in;
            jump_in = omega arith;
            parent = parent.parent;
            jump = leads_home known at;
          }));
    }
