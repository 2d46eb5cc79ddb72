use Rattle.std.proofs.Common.{◌≡◌, ◌++◌, codes, string_bytes, refl}
use Rattle.std.proofs.lemmas.Result.{on_ok_weaker}
use Rattle.audit_picture.specs.DrawnBlocks.{block_frame, block_front, class_name, title_text}
use Rattle.audit_picture.proofs.Series.{six_pieces}
use Rattle.audit_picture.proofs.blocks_drawn.put_block.Goals as goal

pub returns : goal.returns
returns c =
    let b = c.args.block.now in
    let scene = c.args.scene.now in
    let left = c.left-left.result in
    let top = c.top-top.result in
    let lines = c.in_ok-put_lines.ensures.0 in
    let mark = c.in_ok-put_marks.ensures.0 in
    let class_is : c.class.result.now ≡ class_name b.standing = c.class.ensures in
    let fronted : string_bytes c.put_block_front.new.text ≡ string_bytes c.args.text.now ++ block_front (class_name b.standing) =
    rw (← class_is) c.in_ok-put_block_front.ensures in
    on_ok_weaker c.put_end.result (λ last. (
      _,
      record {
        left = left;
        top = top;
        lines = lines;
        are_lines = c.in_ok-put_lines.ensures.1;
        mark = mark;
        are_marks = c.in_ok-put_marks.ensures.1;
        text_is = refl;
      },
      six_pieces (string_bytes c.args.text.now) (block_front (class_name b.standing)) (title_text scene.replicas scene.total b) (block_frame left top) lines mark (codes "</g>\n")
          (string_bytes c.put_block_front.new.text) (string_bytes c.put_title.new.text) (string_bytes c.put_block_frame.new.text) (string_bytes c.put_lines.new.text)
          (string_bytes c.put_marks.new.text) (string_bytes c.put_end.new.text)
          fronted c.in_ok-put_title.ensures c.in_ok-put_block_frame.ensures c.in_ok-put_lines.ensures.2 c.in_ok-put_marks.ensures.2 last,
    )) c.put_end.ensures
