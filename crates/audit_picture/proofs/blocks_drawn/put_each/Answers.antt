use Rattle.std.proofs.Common.{string_bytes, subst, arith}
use Rattle.audit_picture.specs.DrawnBlocks.{IsBlock}
use Rattle.audit_picture.specs.Series.{Adds}
use Rattle.audit_picture.specs.declared.scene.Block.{Block}
use Rattle.audit_picture.proofs.Series.{adds_more}
use Rattle.audit_picture.proofs.blocks_drawn.put_each.Goals as goal

pub loop-index-preserved : goal.loop-index-preserved
loop-index-preserved c =
    let scene = c.args.scene.now in
    let i = c.loop-index.index in
    let before = string_bytes c.loop-index.text in
    let after = string_bytes c.put_block.new.text in
    adds_more (IsBlock scene.replicas scene.total scene.handover) c.args.blocks.now i c.index-blocks-index.result (string_bytes c.args.text.now) before after (omega arith) c.loop-index.invariant
    (subst (λ (b : Block). Adds before after (IsBlock scene.replicas scene.total scene.handover i b)) c.index-blocks-index.is c.in_ok-put_block.ensures)
