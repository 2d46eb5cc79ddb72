use Rattle.std.proofs.Common.{◌≡◌, ◌-◌, ◌<◌, ℕ, List, ◌∷◌, codes, drop, length, string_bytes, take, ap, ◌∙◌, rules}
use Rattle.program_help.specs.Helps.{texts}
use Rattle.program_about.proofs.WordLists.{first_word, some_texts}
use Rattle.program_about.proofs.program.line_of.Goals as goal

pub returns-else-is_empty-clause-some : goal.returns-else-is_empty-clause-some
returns-else-is_empty-clause-some c =
    let words = c.args.words.now in
    let line = take (length words - 1) (drop 1 words) in
    let some : 0 < length line = search rules in
    let is : string_bytes c.option-item.result ≡ codes "--explain" = search rules in
    (some_texts line some, first_word words c.option-item.result c.in-len1-up.len_at_least c.option-item.is ∙ ap (λ (t : List ℕ). t ∷ texts line) is)
