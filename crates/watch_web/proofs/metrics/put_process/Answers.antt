use Rattle.watch_web.specs.Metrics.{process_text}
use Rattle.watch_web.proofs.Pieces.{by_three}
use Rattle.watch_web.proofs.metrics.put_process.Goals as goal

pub returns : goal.returns
unfolding process_text
returns c =
    by_three _ _ _ _ _ _ _
    c.in_ok-append.ensures.ok c.in_ok-put_number.ensures.ok c.in_ok-append-2.ensures.ok
