use Rattle.watch_web.specs.Pages.{looks_text}
use Rattle.watch_web.proofs.Pieces.{by_seven}
use Rattle.watch_web.proofs.page.put_looks.Goals as goal

pub returns : goal.returns
unfolding looks_text
returns c =
    by_seven _ _ _ _ _ _ _ _ _ _ _ _ _ _ _
    c.in_ok-append.ensures.ok c.in_ok-put_icon.ensures c.in_ok-append-2.ensures.ok c.in_ok-put_style.ensures c.in_ok-append-3.ensures.ok c.in_ok-put_class.ensures c.in_ok-append-4.ensures.ok
