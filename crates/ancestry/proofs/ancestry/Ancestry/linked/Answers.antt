use Rattle.ancestry.specs.Links.{header_at}
use Rattle.ancestry.proofs.Ids.{at_known}
use Rattle.ancestry.proofs.Walks.{linked_is}
use Rattle.ancestry.proofs.ancestry.Ancestry.linked.Goals as goal

pub returns-in-Some : goal.returns-in-Some
returns-in-Some c =
    let known = c.args.self.now in
    let at = c.in-Some.at in
    let named = c.in-Some.ensures.position.1 in (
      λ t. (header_at known at, named, c.has_chain.ensures.0 t),
      λ l. c.has_chain.ensures.1 (linked_is known c.args.id.now (header_at known at) c.in-Some.ensures.known (at_known known at) named l),
    )
