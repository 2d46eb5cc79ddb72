use Rattle.watch_web.specs.Holding.{unwatched_line}
use Rattle.watch_web.proofs.Pieces.{by_five}
use Rattle.watch_web.proofs.holding.put_unwatched_line.Goals as goal

pub returns : goal.returns
unfolding unwatched_line
returns c =
    by_five _ _ _ _ _ _ _ _ _ _ _
    c.in_ok-append.ensures.ok c.in_ok-put_part.ensures c.in_ok-append-2.ensures.ok c.in_ok-put_names.ensures c.in_ok-append-3.ensures.ok
