use Rattle.std.proofs.Common.{◌≡◌, ◌∙◌, ◌<◌, ◌≤◌, ◌^◌, ℕ, List, arith, rules, sym}
use Rattle.std.specs.Prelude.{decimal}
use Rattle.std.proofs.lemmas.Fmt.{decimal_injective}
use Rattle.program_parts.proofs.words.number.Goals as goal

pub returns-then-number-from : goal.returns-then-number-from
returns-then-number-from c n s =
    let spelled : c.args.word.now ≡ decimal c.in_ok-number.number = search rules in
    let fits : c.in_ok-number.number < 2 ^ 64 = search rules in
    let past : 2 ^ 16 ≤ c.in_ok-number.number = search rules in
    let same = decimal_injective n c.in_ok-number.number (omega (arith, s.0)) fits (sym s.1 ∙ spelled) in
    omega (arith, s.0, same)
