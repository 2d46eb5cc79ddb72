use Rattle.watch_web.specs.Pages.{first_text}
use Rattle.watch_web.proofs.Pieces.{by_eleven}
use Rattle.watch_web.proofs.page.put_first.Goals as goal

pub returns : goal.returns
unfolding first_text
returns c =
    by_eleven _ _ _ _ _ _ _ _ _ _ _ _ _ _ _ _ _ _ _ _ _ _ _
    c.in_ok-append.ensures.ok c.in_ok-put_state.ensures c.in_ok-append-2.ensures.ok c.in_ok-put_advice.ensures c.in_ok-append-3.ensures.ok c.in_ok-put_number.ensures.ok c.in_ok-append-4.ensures.ok c.in_ok-append-5.ensures.ok c.in_ok-append-6.ensures.ok c.in_ok-put_share.ensures c.in_ok-append-7.ensures.ok
