use Rattle.std.proofs.Common.{◌≡◌, ℕ, [], List, false, length, string_bytes, arith, ap, rules}
use Rattle.std.proofs.lemmas.Result.{IfErr-weaker}
use Rattle.program_check.specs.Judgements.{AreTexts}
use Rattle.program_check.specs.Words.{AreFiles}
use Rattle.program_check.proofs.Causes.{IsReadingFault, are_files, not_empty, of_files}
use Rattle.program_parts.proofs.Endings.{whatever_ok}
use Rattle.program_check.proofs.program.read_texts.Goals as goal

pub returns-in-len2-clause-read : goal.returns-in-len2-clause-read
returns-in-len2-clause-read g c =
    let words = c.args.words.now in
    let stdin = g.R.Read.remaining c.args.stdin in
    let first = c.committee-item.result in
    let second = c.verdict-item.result in
    let two : length words ≡ 2 = omega (arith, c.in-len2.len_at_least, c.in-len2.len_below) in
    let full : c.is_empty.result ≡ false = search rules in
    let full_too : c.is_empty-then-not-is_empty.result ≡ false = search rules in
    let are = are_files words first second two c.committee-item.is c.verdict-item.is (not_empty first _ c.is_empty.ensures full) (not_empty second _ c.is_empty-then-not-is_empty.ensures full_too) in
    whatever_ok c.from_files.result (λ texts. AreTexts words stdin texts.committee.items texts.verdict.items)
    (λ texts. record { asked = λ usage. usage.not_two (string_bytes first) (string_bytes second) are; spelled = λ none. absurd (let short = ap length none in omega arith) })

pub returns-in-len2-clause-refused : goal.returns-in-len2-clause-refused
returns-in-len2-clause-refused g c =
    let words = c.args.words.now in
    let stdin = g.R.Read.remaining c.args.stdin in
    let first = c.committee-item.result in
    let second = c.verdict-item.result in
    let two : length words ≡ 2 = omega (arith, c.in-len2.len_at_least, c.in-len2.len_below) in
    let full : c.is_empty.result ≡ false = search rules in
    let full_too : c.is_empty-then-not-is_empty.result ≡ false = search rules in
    let are = are_files words first second two c.committee-item.is c.verdict-item.is (not_empty first _ c.is_empty.ensures full) (not_empty second _ c.is_empty-then-not-is_empty.ensures full_too) in
    IfErr-weaker c.from_files.result _ (IsReadingFault words stdin)
    (λ fault is. of_files words stdin (string_bytes first) (string_bytes second) c.as_str.result c.as_str-in-len2.result fault are c.as_str.ensures.value c.as_str-in-len2.ensures.value is)
    c.from_files.ensures.refused
