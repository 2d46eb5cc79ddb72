use Rattle.std.proofs.Common.{◌↔◌, rules}
use Rattle.std.specs.Prelude.{IsTrue}
use Rattle.audit_commits.specs.Successors.{HasTwoNext}
use Rattle.audit_commits.proofs.Parents.{two_next_of}
use Rattle.audit_commits.proofs.commits.is_commit_among.Goals as goal

pub returns-then-linked : goal.returns-then-linked
returns-then-linked c =
    let sorted = c.args.certified.now in
    let known = c.args.chains.now.headers in
    let b = c.args.b.now in
    let two : IsTrue c.has_two_next.result ↔ HasTwoNext known b = (
      λ is. two_next_of sorted known b (λ h. (c.requires h).0) (c.has_two_next.ensures.0 is),
      λ has. c.has_two_next.ensures.1 (two_next_of known sorted b (λ h. (c.requires h).1) has),
    ) in
    search rules
