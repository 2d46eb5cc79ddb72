use Rattle.std.proofs.Common.{rules, arith, length, take, ◌∙◌, ◌-◌}
use Rattle.log_transfer.proofs.Fills.{take_filled, gave_more}
use Rattle.log_transfer.proofs.filling.fill.Goals as goal

pub loop-done-preserved : goal.loop-done-preserved
loop-done-preserved g c =
    let inv = c.loop-done.invariant in
    let n = c.in-Ok.n in
    let fits = c.in-Ok.ensures.within in
    let left = g.C.Connector.left in
    let is = take_filled c.loop-done.done n (length c.loop-done.buffer - c.loop-done.done) c.loop-done.buffer c.read.new.buffer inv.within fits in
    record {
      within = search rules;
      size = search rules;
      gave = gave_more (left c.args.connector.now) (left c.loop-done.connector) (left c.read.new.self) (take c.loop-done.done c.loop-done.buffer) (take n c.read.new.buffer) _ is inv.gave c.in-Ok.ensures.ok;
      later = λ k f m d may. inv.later k f m d (c.in-Ok.ensures.later k f m d may);
      reached = λ s may. c.in-Ok.ensures.state s (inv.reached s may);
      bytes = omega (arith, inv.bytes, c.in-Ok.ensures.bytes.more);
      failed = c.in-Ok.ensures.counted.kept ∙ inv.failed;
    }
