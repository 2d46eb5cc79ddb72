use Rattle.watch_web.specs.Pages.{commits_text}
use Rattle.watch_web.proofs.Pieces.{by_seven}
use Rattle.watch_web.proofs.page.put_all_commits.Goals as goal

pub returns : goal.returns
unfolding commits_text
returns c =
    by_seven _ _ _ _ _ _ _ _ _ _ _ _ _ _ _
    c.in_ok-append.ensures.ok c.in_ok-put_conflict.ensures c.in_ok-append-2.ensures.ok c.in_ok-put_number.ensures.ok c.in_ok-append-3.ensures.ok c.in_ok-put_commits.ensures c.in_ok-append-4.ensures.ok
