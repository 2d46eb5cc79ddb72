use Rattle.watch_web.specs.Pages.{found_text}
use Rattle.watch_web.proofs.Pieces.{by_three}
use Rattle.watch_web.proofs.page.put_found.Goals as goal

pub returns : goal.returns
unfolding found_text
returns c =
    by_three _ _ _ _ _ _ _
    c.in_ok-append.ensures.ok c.in_ok-put_culprits.ensures c.in_ok-append-2.ensures.ok
