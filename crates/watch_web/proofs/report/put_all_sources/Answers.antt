use Rattle.watch_web.specs.Reports.{report_sources}
use Rattle.watch_web.proofs.Pieces.{by_three}
use Rattle.watch_web.proofs.report.put_all_sources.Goals as goal

pub returns : goal.returns
unfolding report_sources
returns c =
    by_three _ _ _ _ _ _ _
    c.in_ok-append.ensures.ok c.in_ok-put_sources.ensures c.in_ok-append-2.ensures.ok
