use Rattle.watch_web.specs.Rows.{fork_text}
use Rattle.watch_web.proofs.Pieces.{by_five}
use Rattle.watch_web.proofs.rows.put_fork.Goals as goal

pub returns : goal.returns
unfolding fork_text
returns c =
    by_five _ _ _ _ _ _ _ _ _ _ _
    c.in_ok-append.ensures.ok c.in_ok-put_id.ensures.ok c.in_ok-append-2.ensures.ok c.in_ok-put_id-2.ensures.ok c.in_ok-append-3.ensures.ok
