use Rattle.std.proofs.Common.{◌≡◌, ℕ, List, [], ◌∷◌, codes, length, string_bytes, sym, ap, ◌∙◌, arith, rules}
use Rattle.program_about.specs.About.{statement_words}
use Rattle.program_about.proofs.WordLists.{four_words}
use Rattle.program_about.proofs.program.paths_of.Goals as goal

pub returns-else-ne-2-clause-some : goal.returns-else-ne-2-clause-some
returns-else-ne-2-clause-some c =
    let words = c.args.words.now in
    let option = c.option-item.result in
    let verdict = c.verdict-item.result in
    let with = c.with-item.result in
    let committee = c.committee-item.result in
    let four : length words ≡ 4 = omega (arith, c.in-len4.len_at_least, c.in-len4.len_below) in
    let first : string_bytes option ≡ codes "--statement" = search rules in
    let third : string_bytes with ≡ codes "--committee" = search rules in
    four_words words option verdict with committee four c.option-item.is c.verdict-item.is c.with-item.is c.committee-item.is
    ∙ ap (λ (t : List ℕ). t ∷ string_bytes verdict ∷ string_bytes with ∷ string_bytes committee ∷ []) first
    ∙ ap (λ (t : List ℕ). codes "--statement" ∷ string_bytes verdict ∷ t ∷ string_bytes committee ∷ []) third
    ∙ ap (λ (t : List ℕ). statement_words t (string_bytes committee)) (sym c.as_str-in-len4.ensures.value)
    ∙ ap (λ (t : List ℕ). statement_words c.as_str-in-len4.result.now t) (sym c.as_str-in-len4-2.ensures.value)
