use Rattle.std.proofs.Common.{◌≡◌, length, arith}
use Rattle.program_about.proofs.WordLists.{six_words}
use Rattle.program_about.proofs.lineage.asks_for_lineage_sheet.Goals as goal

pub returns : goal.returns
returns c =
    let words = c.args.words.now in
    let six : length words ≡ 6 = omega (arith, c.in-len6.len_at_least, c.in-len6.len_below) in
    let asked = six_words words c.option-item.result c.lineage-item.result c.with-item.result six c.option-item.is c.lineage-item.is c.with-item.is in
    (λ yes. asked.1 (c.are_options.ensures.0 yes), λ ask. c.are_options.ensures.1 (asked.0 ask))
