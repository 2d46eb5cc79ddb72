use Rattle.watch_web.specs.Pages.{none_text}
use Rattle.watch_web.proofs.Pieces.{by_five}
use Rattle.watch_web.proofs.page.put_none.Goals as goal

pub returns : goal.returns
unfolding none_text
returns c =
    by_five _ _ _ _ _ _ _ _ _ _ _
    c.in_ok-append.ensures.ok c.in_ok-put_share.ensures c.in_ok-append-2.ensures.ok c.in_ok-append-3.ensures.ok c.in_ok-append-4.ensures.ok
