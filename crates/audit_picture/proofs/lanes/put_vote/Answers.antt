use Rattle.std.proofs.Common.{◌≡◌, ◌++◌, string_bytes, refl, ◌∙◌}
use Rattle.std.proofs.lemmas.Result.{on_ok_weaker}
use Rattle.audit_picture.specs.Lanes.{vote_frame, vote_title, vote_words}
use Rattle.audit_picture.specs.Digits.{short_id, whole_id}
use Rattle.audit_picture.proofs.Series.{three_pieces}
use Rattle.audit_picture.proofs.lanes.put_vote.Goals as goal

pub returns : goal.returns
returns c =
    let old = string_bytes c.args.text.now in
    let mark = c.args.mark.now in
    let left = c.saturating_sub-left.result in
    let top = c.saturating_sub-top.result in
    let middle = c.middle-middle.result in
    let line = c.saturating_add.result in
    let id_is : c.as_str.result.now ≡ whole_id mark.id = c.as_str.ensures.value ∙ c.in_ok-id.ensures in
    let digits_are : c.as_str-2.result.now ≡ short_id mark.id = c.as_str-2.ensures.value ∙ c.in_ok-digits.ensures in
    let titled : string_bytes c.put_title.new.text ≡ old ++ vote_title (whole_id mark.id) mark.view = rw (← id_is) c.in_ok-put_title.ensures in
    on_ok_weaker c.put_words.result (λ last.
    let worded : string_bytes c.put_words.new.text ≡ string_bytes c.put_frame.new.text ++ vote_words middle line (short_id mark.id) = rw (← digits_are) last in (
      _,
      record { left = left; top = top; middle = middle; line = line; text_is = refl },
      three_pieces old (vote_title (whole_id mark.id) mark.view) (vote_frame left top) (vote_words middle line (short_id mark.id))
          (string_bytes c.put_title.new.text) (string_bytes c.put_frame.new.text) (string_bytes c.put_words.new.text) titled c.in_ok-put_frame.ensures worded,
    )) c.put_words.ensures
