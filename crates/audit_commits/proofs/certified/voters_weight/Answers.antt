use Rattle.std.proofs.Common.{◌≡◌, ◌∙◌, List, rules}
use Rattle.blocks.specs.Headers.{header_id}
use Rattle.audit_commits.specs.Casts.{has_cast}
use Rattle.audit_commits.specs.Commits.{has_vote}
use Rattle.audit_commits.specs.declared.by_ballot.Cast.{Cast}
use Rattle.audit_commits.proofs.Ballots.{cast_is_vote}
use Rattle.audit_commits.proofs.certified.voters_weight.Goals as goal

pub returns : goal.returns
returns c = λ votes are.
    let b = c.args.b.now in
    let on : List Cast = c.on-on.result.now in
    c.weight_of.ensures (has_vote votes b.view (header_id b)) (λ r answer less called.
    let same : answer ≡ has_cast on r = search rules in
    same ∙ cast_is_vote votes c.args.casts.now on b.view (header_id b) r are c.on-on.ensures)
