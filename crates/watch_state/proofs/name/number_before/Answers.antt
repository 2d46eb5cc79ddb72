use Rattle.std.proofs.Common.{◌∙◌, ◌<◌, ◌^◌, arith, rules, sym}
use Rattle.std.specs.Prelude.{decimal}
use Rattle.std.proofs.lemmas.Fmt.{decimal_injective}
use Rattle.watch_state.proofs.Naming.{number_cut, with_hyphen}
use Rattle.watch_state.proofs.name.number_before.Goals as goal

pub returns-in_err-digits : goal.returns-in_err-digits
returns-in_err-digits c = λ number rest low is.
    absurd (c.in_err-digits.ensures.none (with_hyphen _ (decimal number) rest is))

pub returns-in_err-small_number_in : goal.returns-in_err-small_number_in
returns-in_err-small_number_in c = λ number rest low is.
    let cut = number_cut _ _ _ rest number low is c.in_ok-digits.ensures.some in
    absurd (c.in_err-small_number_in.ensures.none number low cut.0)

pub returns : goal.returns
returns c = λ number rest low is.
    let cut = number_cut _ _ _ rest number low is c.in_ok-digits.ensures.some in
    let printed = sym c.in_ok-small_number_in.ensures.some ∙ cut.0 in
    let low_found : c.in_ok-small_number_in.field-0 < 2 ^ 16 = search rules in
    (decimal_injective _ number (omega (arith, low_found)) (omega (arith, low)) printed, cut.1)
