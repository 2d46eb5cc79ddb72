use Rattle.watch_web.specs.Pages.{kept_line}
use Rattle.watch_web.proofs.Pieces.{by_three}
use Rattle.watch_web.proofs.page.put_kept_line.Goals as goal

pub returns : goal.returns
unfolding kept_line
returns c = by_three _ _ _ _ _ _ _ c.in_ok-append.ensures.ok c.in_ok-put_share.ensures c.in_ok-append-2.ensures.ok
