use Rattle.std.proofs.Common.{◌∙◌, arith, rules, sym}
use Rattle.std.proofs.lemmas.Fmt.{decimal_injective}
use Rattle.watch_state.proofs.name.small_number_in.Goals as goal

pub returns-then-number-from-clause-none : goal.returns-then-number-from-clause-none
returns-then-number-from-clause-none c = λ n low is.
    let m = c.in_ok-number.number in
    let large = c.if-number-from.true in
    let same = decimal_injective n m (omega (arith, low)) (search rules) (sym is ∙ c.in_ok-number.ensures.some) in
    search rules
