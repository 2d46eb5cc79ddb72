use Rattle.watch_web.specs.Reports.{report_commits}
use Rattle.watch_web.proofs.Pieces.{by_eight}
use Rattle.watch_web.proofs.report.put_commits.Goals as goal

pub returns : goal.returns
unfolding report_commits
returns c =
    by_eight _ _ _ _ _ _ _ _ _ _ _ _ _ _ _ _ _
    c.in_ok-append.ensures.ok c.in_ok-put_number.ensures.ok c.in_ok-append-2.ensures.ok c.in_ok-put_blocks.ensures c.in_ok-append-3.ensures.ok c.in_ok-put_conflict.ensures c.in_ok-append-4.ensures.ok c.in_ok-put_bool.ensures
