use Rattle.std.proofs.Common.{◌≡◌, ◌∙◌, List, ℕ, rules, sym, subst}
use Rattle.std.specs.Str.{IsAscii}
use Rattle.std.proofs.lemmas.Fmt.{IsAscii-decimal, parse-decimal}
use Rattle.std.proofs.lemmas.Str.{IsUtf8-from_ascii}
use Rattle.base_text.proofs.digits.number_in.Goals as goal

pub returns-in_default-clause-none : goal.returns-in_default-clause-none
returns-in_default-clause-none c number fits is =
    c.in_default.ensures.cases.0 (IsUtf8-from_ascii c.args.digits.now (subst (λ (t : List ℕ). IsAscii t) (sym is) (IsAscii-decimal number fits)))

pub returns-in_default-parse-clause-none : goal.returns-in_default-parse-clause-none
returns-in_default-parse-clause-none c number fits is =
    absurd (cc (parse-decimal 64 number _ _ fits fits (c.in-Ok.ensures.cases.0 ∙ is) c.parse.ensures.value.0))

pub returns-then-ne-clause-none : goal.returns-then-ne-clause-none
returns-then-ne-clause-none c number fits is =
    let spelled = c.in-Ok.ensures.cases.0 ∙ is in
    let read = parse-decimal 64 number _ _ fits fits spelled c.parse.ensures.value.0 in
    let same : c.format.result.now ≡ c.in-Ok.text.now = cc in
    search rules
