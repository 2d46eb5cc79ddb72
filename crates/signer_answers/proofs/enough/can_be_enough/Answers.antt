use Rattle.std.proofs.Common.{ℕ, ◌<◌, ◌*◌, rules, subst, sym}
use Rattle.std.specs.Prelude.{IsTrue}
use Rattle.blocks.specs.Weights.{total_of}
use Rattle.signer_answers.proofs.Asked.{enough_can_be}
use Rattle.signer_answers.proofs.enough.can_be_enough.Goals as goal

pub returns-clause-never : goal.returns-clause-never
returns-clause-never c = λ no whole of enough.
    let committee = c.args.committee.now in
    let can = enough_can_be committee c.args.replica c.args.asked.now whole of enough in
    let yes : IsTrue c.is_more_than_a_third.result =
    c.is_more_than_a_third.ensures.1 (subst (λ (w : ℕ). total_of committee < 3 * w) (sym c.asked_weight.ensures) can) in
    search rules
