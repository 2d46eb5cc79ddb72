use Rattle.watch_web.specs.Pages.{foot_text}
use Rattle.watch_web.proofs.Pieces.{by_five}
use Rattle.watch_web.proofs.page.put_foot.Goals as goal

pub returns : goal.returns
unfolding foot_text
returns c =
    by_five _ _ _ _ _ _ _ _ _ _ _
    c.in_ok-append.ensures.ok c.in_ok-put_number.ensures.ok c.in_ok-append-2.ensures.ok c.in_ok-put_id.ensures.ok c.in_ok-append-3.ensures.ok
