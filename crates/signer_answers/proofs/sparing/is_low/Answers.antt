use Rattle.std.proofs.Common.{◌≤◌, ℕ, rules, subst}
use Rattle.vote_desk.specs.declared.parts.Left.{Left}
use Rattle.signer_answers.proofs.sparing.is_low.Goals as goal

pub returns : goal.returns
returns g c = λ yes.
    let some = c.left.ensures.kept in
    let few : c.left.result.indices ≤ 64 = search rules in
    record {
      desk = some.desk;
      is_desk = some.is_desk;
      is = subst (λ (l : Left). l.indices ≤ 64) some.is few;
    }
