use Rattle.std.proofs.Common.{◌≡◌, ◌++◌}
use Rattle.watch_report.specs.Sources.{since_of}
use Rattle.watch_web.specs.Ages.{for_text}
use Rattle.watch_web.specs.Holding.{held_line}
use Rattle.watch_web.proofs.Pieces.{by_eight}
use Rattle.watch_web.proofs.holding.put_held_line.Goals as goal

pub returns : goal.returns
unfolding held_line
returns c =
    let held : c.put_for.new.text.items ≡ c.put_remark.new.text.items ++ for_text (since_of c.args.state c.args.source.now) c.args.second =
    rw (← c.since.ensures) c.in_ok-put_for.ensures in
    by_eight _ _ _ _ _ _ _ _ _ _ _ _ _ _ _ _ _
    c.in_ok-append.ensures.ok c.in_ok-put_number.ensures.ok c.in_ok-append-2.ensures.ok c.in_ok-put_shown.ensures c.in_ok-append-3.ensures.ok c.in_ok-put_remark.ensures held c.in_ok-append-4.ensures.ok
