use Rattle.watch_web.specs.Pages.{earlier_line}
use Rattle.watch_web.proofs.Pieces.{by_three}
use Rattle.watch_web.proofs.page.put_earlier_line.Goals as goal

pub returns : goal.returns
unfolding earlier_line
returns c = by_three _ _ _ _ _ _ _ c.in_ok-append.ensures.ok c.in_ok-put_number.ensures.ok c.in_ok-append-2.ensures.ok
