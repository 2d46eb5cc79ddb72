use Rattle.watch_web.specs.Rows.{cells_text}
use Rattle.watch_web.proofs.Pieces.{by_eleven}
use Rattle.watch_web.proofs.rows.put_cells.Goals as goal

pub returns : goal.returns
unfolding cells_text
returns c =
    by_eleven _ _ _ _ _ _ _ _ _ _ _ _ _ _ _ _ _ _ _ _ _ _ _
    c.in_ok-append.ensures.ok c.in_ok-put_ending.ensures c.in_ok-append-2.ensures.ok c.in_ok-put_number.ensures.ok c.in_ok-append-3.ensures.ok c.in_ok-put_lag.ensures c.in_ok-append-4.ensures.ok c.in_ok-put_age.ensures c.in_ok-append-5.ensures.ok c.in_ok-put_age-2.ensures c.in_ok-append-6.ensures.ok
