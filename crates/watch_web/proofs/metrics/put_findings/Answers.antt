use Rattle.watch_web.specs.Metrics.{findings_text}
use Rattle.watch_web.proofs.Pieces.{by_seven}
use Rattle.watch_web.proofs.metrics.put_findings.Goals as goal

pub returns : goal.returns
unfolding findings_text
returns c =
    by_seven _ _ _ _ _ _ _ _ _ _ _ _ _ _ _
    c.in_ok-append.ensures.ok c.in_ok-put_number.ensures.ok c.in_ok-append-2.ensures.ok c.in_ok-put_number-2.ensures.ok c.in_ok-append-3.ensures.ok c.in_ok-put_number-3.ensures.ok c.in_ok-append-4.ensures.ok
