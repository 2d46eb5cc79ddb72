use Rattle.watch_web.specs.Metrics.{going_text}
use Rattle.watch_web.proofs.Pieces.{by_seven}
use Rattle.watch_web.proofs.metrics.put_going.Goals as goal

pub returns : goal.returns
unfolding going_text
returns c =
    by_seven _ _ _ _ _ _ _ _ _ _ _ _ _ _ _
    c.in_ok-append.ensures.ok c.in_ok-put_id.ensures.ok c.in_ok-append-2.ensures.ok c.in_ok-put_number.ensures.ok c.in_ok-append-3.ensures.ok c.in_ok-put_number-2.ensures.ok c.in_ok-append-4.ensures.ok
