use Rattle.watch_web.specs.Holding.{conflict_line}
use Rattle.watch_web.proofs.Pieces.{by_three}
use Rattle.watch_web.proofs.holding.put_conflict_line.Goals as goal

pub returns : goal.returns
unfolding conflict_line
returns c =
    by_three _ _ _ _ _ _ _
    c.in_ok-append.ensures.ok c.in_ok-put_for.ensures c.in_ok-append-2.ensures.ok
