use Rattle.std.proofs.Common.{rules, length, take, arith, ◌∙◌, ◌-◌}
use Rattle.std.proofs.lemmas.Slice.{take-put_mid_below}
use Rattle.log_server.proofs.Requests.{take_filled, gave_last, gave_more}
use Rattle.log_server.proofs.filling.fill.Goals as goal

pub loop-done-preserved : goal.loop-done-preserved
loop-done-preserved g c =
    let inv = c.loop-done.invariant in
    let n = c.in_ok-n.n in
    let fits = c.in_ok-n.ensures.within in
    let rest = g.R.Feed.rest in
    let is = take_filled c.loop-done.done n (length c.loop-done.buffer - c.loop-done.done) c.loop-done.buffer c.read.new.buffer inv.within fits in
    record {
      within = search rules;
      size = search rules;
      gave = gave_more (rest c.args.feed.now) (rest c.loop-done.feed) (rest c.read.new.self) (take c.loop-done.done c.loop-done.buffer) c.read.new.buffer _ n is inv.gave c.in_ok-n.ensures.ok;
      failed = c.in_ok-n.ensures.counted.kept ∙ inv.failed;
    }

pub returns-then-n-eq0-clause-filled : goal.returns-then-n-eq0-clause-filled
returns-then-n-eq0-clause-filled g c =
    let inv = c.loop-done.invariant in
    let rest = g.R.Feed.rest in
    let same = take-put_mid_below c.loop-done.done (length c.loop-done.buffer - c.loop-done.done) c.loop-done.buffer c.read.new.buffer c.loop-done.done (omega arith) inv.within in
    (search rules, gave_last (rest c.args.feed.now) (rest c.loop-done.feed) (rest c.read.new.self) (take c.loop-done.done c.loop-done.buffer) c.read.new.buffer _ c.in_ok-n.n same inv.gave c.in_ok-n.ensures.ok c.if-n-eq0.true (search rules))
