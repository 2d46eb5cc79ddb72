use Rattle.std.proofs.Common.{codes, refl}
use Rattle.std.proofs.lemmas.Result.{on_ok_weaker}
use Rattle.audit_picture.specs.DrawnBlocks.{words_line}
use Rattle.audit_picture.proofs.blocks_drawn.put_after.Goals as goal

pub returns : goal.returns
returns c =
    on_ok_weaker c.put_words_line.result (λ last. (words_line c.args.x c.args.y (codes "after handover"), (c.args.x, c.args.y, refl), last)) c.put_words_line.ensures
