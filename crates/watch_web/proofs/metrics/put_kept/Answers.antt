use Rattle.watch_web.specs.Metrics.{kept_text}
use Rattle.watch_web.proofs.Pieces.{by_five}
use Rattle.watch_web.proofs.metrics.put_kept.Goals as goal

pub returns : goal.returns
unfolding kept_text
returns c =
    by_five _ _ _ _ _ _ _ _ _ _ _
    c.in_ok-append.ensures.ok c.in_ok-put_number.ensures.ok c.in_ok-append-2.ensures.ok c.in_ok-put_number-2.ensures.ok c.in_ok-append-3.ensures.ok
