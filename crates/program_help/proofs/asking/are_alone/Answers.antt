use Rattle.std.proofs.Common.{◌≡◌, ℕ, List, [], ◌∷◌, length, string_bytes, sym, ap, ◌∙◌, arith, rules}
use Rattle.program_help.proofs.Words.{alone_text, one_word}
use Rattle.program_help.proofs.asking.are_alone.Goals as goal

pub returns-in-len1 : goal.returns-in-len1
returns-in-len1 c =
    let words = c.args.words.now in
    let word = c.word-item.result in
    let one : length words ≡ 1 = omega (arith, c.in-len1.len_at_least, c.in-len1.len_below) in
    let same = one_word words word one c.word-item.is in (
      λ yes. same ∙ ap (λ (t : List ℕ). t ∷ []) (let is : string_bytes word ≡ c.args.option.now = search rules in is),
      λ are. let is : string_bytes word ≡ c.args.option.now = alone_text (sym same ∙ are) in search rules,
    )
