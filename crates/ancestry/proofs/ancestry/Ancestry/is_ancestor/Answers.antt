use Rattle.std.proofs.Common.{◌∙◌, sym}
use Rattle.std.proofs.lemmas.Bool.{false≢true}
use Rattle.ancestry.specs.Links.{header_at}
use Rattle.ancestry.proofs.Ids.{at_known}
use Rattle.ancestry.proofs.Walks.{linked_is, ancestor_is}
use Rattle.ancestry.proofs.ancestry.Ancestry.is_ancestor.Goals as goal
use Rattle.ancestry.proofs.ancestry.Ancestry.is_ancestor.Goals.{then-not-has_chain-via-then-not-has_chain, then-not-has_chain-via-else-not-has_chain+then-not-has_chain-2}

pub returns-then-not-has_chain-clause-linked : goal.returns-then-not-has_chain-clause-linked
returns-then-not-has_chain-clause-linked c =
    let known = c.args.self.now in
    let is = c.in_ok-first.ensures.known in
    let first = c.in_ok-first.first in
    let second = c.in_ok-second.second in
    let first_named = c.in_ok-first.ensures.position.1 in
    let second_named = c.in_ok-second.ensures.position.1 in (
      λ e. absurd (false≢true e),
      λ both. elim c.then-not-has_chain.branch [
        | then-not-has_chain-via-then-not-has_chain w ↦
            absurd (false≢true (sym w.if-not-has_chain.true ∙ c.has_chain.ensures.1 (linked_is known c.args.a.now (header_at known first) is (at_known known first) first_named both.0)))
        | then-not-has_chain-via-else-not-has_chain+then-not-has_chain-2 w ↦
            absurd (false≢true (sym w.if-not-has_chain-2.true ∙ w.has_chain-else-not-has_chain.ensures.1 (linked_is known c.args.b.now (header_at known second) is (at_known known second) second_named both.1)))
      ],
    )

pub returns-clause-ancestor : goal.returns-clause-ancestor
returns-clause-ancestor c =
    let known = c.args.self.now in
    let is = c.in_ok-first.ensures.known in
    let first = c.in_ok-first.first in
    let second = c.in_ok-second.second in
    let first_named = c.in_ok-first.ensures.position.1 in
    let second_named = c.in_ok-second.ensures.position.1 in (
      λ t. (header_at known first, header_at known second, first_named, second_named, c.stands_above.ensures.0 t),
      λ l. c.stands_above.ensures.1 (ancestor_is known c.args.a.now c.args.b.now (header_at known first) (header_at known second) is (at_known known first) (at_known known second) first_named second_named l),
    )
