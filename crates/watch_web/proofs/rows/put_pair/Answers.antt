use Rattle.watch_web.specs.Rows.{pair_text}
use Rattle.watch_web.proofs.Pieces.{by_six}
use Rattle.watch_web.proofs.rows.put_pair.Goals as goal

pub returns : goal.returns
unfolding pair_text
returns c =
    by_six _ _ _ _ _ _ _ _ _ _ _ _ _
    c.in_ok-append.ensures.ok c.in_ok-put_rule.ensures c.in_ok-append-2.ensures.ok c.in_ok-put_number.ensures.ok c.in_ok-append-3.ensures.ok c.in_ok-put_number-2.ensures.ok
