use Rattle.std.proofs.Common.{◌↔◌, rules}
use Rattle.std.specs.Prelude.{IsTrue}
use Rattle.std.specs.List.{Any}
use Rattle.audit_commits.specs.Successors.{HasNext, IsNext}
use Rattle.audit_commits.proofs.Parents.{any_on}
use Rattle.audit_commits.proofs.commits.has_next.Goals as goal

pub returns : goal.returns
unfolding HasNext
returns c =
    let b = c.args.b.now in
    let found : IsTrue c.any.result ↔ Any (IsNext b) c.on.result.now = search rules in
    let same = any_on c.on.result.now c.args.certified.now c.id.result.now b (IsNext b) c.on.ensures c.id.ensures (λ h next. next) in
    (λ is. same.0 (found.0 is), λ has. found.1 (same.1 has))
