use Rattle.std.proofs.Common.{◌≡◌, ◌∙◌, ◌<◌, ◌≤◌, ◌^◌, arith, rules, sym}
use Rattle.std.specs.Prelude.{decimal}
use Rattle.std.proofs.lemmas.Fmt.{decimal_injective}
use Rattle.program_words.proofs.reading.weight.Goals as goal
use Rattle.program_words.proofs.reading.weight.Goals.{then-weight-lt1-via-then-weight-lt1, then-weight-lt1-via-else-weight-lt1+then-weight-from}

pub returns-then-weight-lt1 : goal.returns-then-weight-lt1
returns-then-weight-lt1 c n low high s =
    let spelled : c.args.word.now ≡ decimal c.in_ok-weight.weight = search rules in
    let fits : c.in_ok-weight.weight < 2 ^ 64 = search rules in
    let same = decimal_injective n c.in_ok-weight.weight (omega (arith, high)) fits (sym s ∙ spelled) in
    elim c.then-weight-lt1.branch [
      | then-weight-lt1-via-then-weight-lt1 w ↦ let below : c.in_ok-weight.weight < 1 = search rules in omega (arith, same, low)
      | then-weight-lt1-via-else-weight-lt1+then-weight-from w ↦ let above : 2 ^ 32 ≤ c.in_ok-weight.weight = search rules in omega (arith, same, high)
    ]
