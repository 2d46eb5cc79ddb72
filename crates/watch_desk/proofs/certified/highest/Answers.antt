use Rattle.std.proofs.Common.{◌∙◌, ap, sym}
use Rattle.watch_desk.specs.Sources.{larger}
use Rattle.watch_desk.proofs.Highest.{highest_more}
use Rattle.watch_desk.proofs.certified.highest.Goals as goal

pub loop-block-preserved : goal.loop-block-preserved
loop-block-preserved c =
    let x = c.block-item.result in
    let more = highest_more 0 c.args.blocks.now c.loop-block.block-index x c.loop-block-test.true c.block-item.is in
    c.larger-top.ensures ∙ ap (λ n. larger c.loop-block.top n) c.view_of.ensures ∙ ap (λ n. larger n x.view) c.loop-block.invariant ∙ sym more
