use Rattle.watch_web.specs.Reports.{source_front}
use Rattle.watch_web.proofs.Pieces.{by_six}
use Rattle.watch_web.proofs.report.put_source_front.Goals as goal

pub returns : goal.returns
unfolding source_front
returns c =
    by_six _ _ _ _ _ _ _ _ _ _ _ _ _
    c.in_ok-append.ensures.ok c.in_ok-put_number.ensures.ok c.in_ok-append-2.ensures.ok c.in_ok-put_string.ensures c.in_ok-append-3.ensures.ok c.in_ok-put_status.ensures
