use Rattle.watch_web.specs.Pages.{title_text}
use Rattle.watch_web.proofs.Pieces.{by_eight}
use Rattle.watch_web.proofs.page.put_title.Goals as goal

pub returns : goal.returns
unfolding title_text
returns c =
    by_eight _ _ _ _ _ _ _ _ _ _ _ _ _ _ _ _ _
    c.in_ok-append.ensures.ok c.in_ok-put_reload.ensures c.in_ok-append-2.ensures.ok c.in_ok-put_state.ensures c.in_ok-append-3.ensures.ok c.in_ok-put_shown.ensures c.in_ok-append-4.ensures.ok c.in_ok-put_shown-2.ensures
