use Rattle.std.proofs.Common.{◌≡◌, ◌++◌, string_bytes, refl, rules}
use Rattle.std.proofs.lemmas.Result.{on_ok_weaker}
use Rattle.blocks.specs.Headers.{header_id}
use Rattle.audit_picture.specs.Digits.{short_id}
use Rattle.audit_picture.specs.DrawnBlocks.{count_line, id_line, standing_words, unless_genesis, words_line}
use Rattle.audit_picture.proofs.Series.{three_pieces}
use Rattle.audit_picture.proofs.blocks_drawn.put_lines.Goals as goal

pub returns : goal.returns
returns c =
    let old = string_bytes c.args.text.now in
    let b = c.args.block.now in
    let x = c.args.x in
    let first = c.saturating_add-first.result in
    let second = c.saturating_add-second.result in
    let third = c.saturating_add-third.result in
    let digits = short_id (header_id b.header) in
    let digits_are : c.as_str.result.now ≡ digits = search rules in
    let words_are : c.words.result.now ≡ standing_words b.standing = c.words.ensures in
    let named : string_bytes c.put_id_line.new.text ≡ old ++ id_line x first digits = rw (← digits_are) c.in_ok-put_id_line.ensures in
    on_ok_weaker c.put_words_line.result (λ last.
    let worded : string_bytes c.put_words_line.new.text ≡ string_bytes c.put_count.new.text ++ words_line x third (standing_words b.standing) = rw (← words_are) last in (
      _,
      record { x = x; first = first; second = second; third = third; text_is = refl },
      three_pieces old (id_line x first digits) (unless_genesis b.standing (count_line x second c.args.total b)) (words_line x third (standing_words b.standing))
          (string_bytes c.put_id_line.new.text) (string_bytes c.put_count.new.text) (string_bytes c.put_words_line.new.text) named c.in_ok-put_count.ensures worded,
    )) c.put_words_line.ensures
