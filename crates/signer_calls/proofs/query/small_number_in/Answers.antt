use Rattle.std.proofs.Common.{arith, rules}
use Rattle.signer_calls.proofs.Parameters.{one_number}
use Rattle.signer_calls.proofs.query.small_number_in.Goals as goal

pub returns-then-number-from-clause-none : goal.returns-then-number-from-clause-none
returns-then-number-from-clause-none c = λ n low is.
    let m = c.in_ok-number.number in
    let large = c.if-number-from.true in
    let same = one_number c.args.digits.now n m (omega (arith, low)) (search rules) is c.in_ok-number.ensures.some in
    search rules
