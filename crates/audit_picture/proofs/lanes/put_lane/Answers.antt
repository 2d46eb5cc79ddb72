use Rattle.std.proofs.Common.{ℕ, codes, string_bytes, refl}
use Rattle.std.proofs.lemmas.Result.{on_ok_weaker}
use Rattle.audit_picture.specs.Lanes.{lane_frame, pair_line}
use Rattle.audit_picture.proofs.Series.{seven_pieces}
use Rattle.audit_picture.proofs.lanes.put_lane.Goals as goal

pub returns : goal.returns
returns c =
    let left : ℕ = 8 in
    let top = c.lane-top.result in
    let width = c.saturating_sub-width.result in
    let height = c.saturating_sub-height.result in
    let from = c.middle-from.result in
    let above = c.saturating_add-earlier.result in
    let to = c.middle-to.result in
    let below = c.saturating_add-later.result in
    let (name, is_name, named) = c.in_ok-put_name.ensures in
    let (beside, is_beside, put_beside) = c.in_ok-put_beside.ensures in
    let (earlier, is_earlier, put_earlier) = c.in_ok-put_vote.ensures in
    let (later, is_later, put_later) = c.in_ok-put_vote-2.ensures in
    on_ok_weaker c.put_end.result (λ last. (
      _,
      record {
        left = left;
        top = top;
        width = width;
        height = height;
        name = name;
        is_name = is_name;
        from = from;
        above = above;
        to = to;
        below = below;
        beside = beside;
        is_beside = is_beside;
        earlier = earlier;
        is_earlier = is_earlier;
        later = later;
        is_later = is_later;
        text_is = refl;
      },
      seven_pieces (string_bytes c.args.text.now) (lane_frame left top width height) name (pair_line from above to below) beside earlier later (codes "</g>\n")
          (string_bytes c.put_lane_frame.new.text) (string_bytes c.put_name.new.text) (string_bytes c.put_pair.new.text) (string_bytes c.put_beside.new.text)
          (string_bytes c.put_vote.new.text) (string_bytes c.put_vote-2.new.text) (string_bytes c.put_end.new.text)
          c.in_ok-put_lane_frame.ensures named c.in_ok-put_pair.ensures put_beside put_earlier put_later last,
    )) c.put_end.ensures
