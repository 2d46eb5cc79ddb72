use Rattle.std.proofs.Common.{◌↔◌, rules}
use Rattle.std.specs.Prelude.{IsTrue}
use Rattle.std.specs.List.{Any}
use Rattle.blocks.specs.Headers.{Header}
use Rattle.audit_commits.specs.Successors.{HasNext, HasTwoNext, IsNext}
use Rattle.audit_commits.proofs.Parents.{any_on}
use Rattle.audit_commits.proofs.commits.has_two_next.Goals as goal

pub returns : goal.returns
unfolding HasTwoNext
returns c =
    let b = c.args.b.now in
    let certified = c.args.certified.now in
    let found : IsTrue c.any.result ↔ Any (λ h. IsNext b h × HasNext certified h) c.on.result.now = search rules in
    let same = any_on c.on.result.now certified c.id.result.now b (λ (h : Header). IsNext b h × HasNext certified h) c.on.ensures c.id.ensures (λ h next. next.0) in
    (λ is. same.0 (found.0 is), λ has. found.1 (same.1 has))
