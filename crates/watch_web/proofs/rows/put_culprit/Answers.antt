use Rattle.std.proofs.Common.{◌≡◌, ◌++◌}
use Rattle.std.specs.Prelude.{decimal}
use Rattle.verdict_format.specs.Verdicts.{replica_in}
use Rattle.watch_report.specs.Proved.{pair_in}
use Rattle.watch_web.specs.Rows.{culprit_row, link_text, pair_text}
use Rattle.watch_web.proofs.Pieces.{by_eight}
use Rattle.watch_web.proofs.rows.put_culprit.Goals as goal

pub returns : goal.returns
unfolding culprit_row
returns c =
    let number : c.put_number.new.text.items ≡ c.append.new.text.items ++ decimal (replica_in c.args.culprit.now.verdict) =
    rw (← c.replica-replica.ensures) c.in_ok-put_number.ensures.ok in
    let votes : c.put_pair.new.text.items ≡ c.put_number.new.text.items ++ pair_text (pair_in c.args.culprit.now.verdict) =
    rw (← c.pair-pair.ensures) c.in_ok-put_pair.ensures in
    let link : c.put_link.new.text.items ≡ c.put_pair.new.text.items ++ link_text (replica_in c.args.culprit.now.verdict) =
    rw (← c.replica-replica.ensures) c.in_ok-put_link.ensures in
    by_eight _ _ _ _ _ _ _ _ _ _ _ _ _ _ _ _ _
    c.in_ok-append.ensures.ok number votes link c.in_ok-put_place.ensures c.in_ok-append-2.ensures.ok c.in_ok-put_shown.ensures c.in_ok-append-3.ensures.ok
