use Rattle.watch_web.specs.Reports.{source_counts}
use Rattle.watch_web.proofs.Pieces.{by_ten}
use Rattle.watch_web.proofs.report.put_source_counts.Goals as goal

pub returns : goal.returns
unfolding source_counts
returns c =
    by_ten _ _ _ _ _ _ _ _ _ _ _ _ _ _ _ _ _ _ _ _ _
    c.in_ok-append.ensures.ok c.in_ok-put_number.ensures.ok c.in_ok-append-2.ensures.ok c.in_ok-put_number-2.ensures.ok c.in_ok-append-3.ensures.ok c.in_ok-put_number-3.ensures.ok c.in_ok-append-4.ensures.ok c.in_ok-put_number-4.ensures.ok c.in_ok-append-5.ensures.ok c.in_ok-put_digests.ensures
