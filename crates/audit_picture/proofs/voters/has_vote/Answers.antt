use Rattle.std.proofs.Common.{List, ℕ, ◌∙◌, ap, rules}
use Rattle.std.proofs.lemmas.Fn.{always_returns_same}
use Rattle.blocks.specs.Headers.{Header}
use Rattle.audit_commits.specs.Commits.{has_vote}
use Rattle.audit_picture.proofs.Ballots.{ballot_of, finds_vote}
use Rattle.audit_picture.proofs.voters.has_vote.Goals as goal

pub returns : goal.returns
returns c =
    let vs = c.args.votes.now in
    let r = c.args.replica in
    let facts = c.binary_search_by_key.ensures in
    let searched = facts.position ballot_of (always_returns_same _ _ _ (λ a s f called. search rules)) in
    c.is_ok.ensures.value ∙ finds_vote vs c.behind-b.inside.view c.id.result.now r c.binary_search_by_key.result c.requires facts.bound searched
    ∙ ap (λ (h : Header). has_vote vs h.view c.id.result.now r) (c.behind-b.view_is ∙ c.header.ensures) ∙ ap (λ (id : List ℕ). has_vote vs c.args.b.now.view id r) c.id.ensures
