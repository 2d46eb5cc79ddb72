use Rattle.std.proofs.Common.{◌≡◌, ◌++◌}
use Rattle.std.specs.Prelude.{decimal}
use Rattle.verdict_format.specs.Verdicts.{replica_in}
use Rattle.watch_report.specs.Proved.{pair_in}
use Rattle.watch_web.specs.Reports.{culprit_text, pair_text}
use Rattle.watch_web.proofs.Pieces.{by_nine}
use Rattle.watch_web.proofs.report.put_culprit.Goals as goal

pub returns : goal.returns
unfolding culprit_text
returns c =
    let number : c.put_number.new.text.items ≡ c.append.new.text.items ++ decimal (replica_in c.args.culprit.now.verdict) =
    rw (← c.replica-replica.ensures) c.in_ok-put_number.ensures.ok in
    let votes : c.put_pair.new.text.items ≡ c.append-2.new.text.items ++ pair_text (pair_in c.args.culprit.now.verdict) =
    rw (← c.pair-pair.ensures) c.in_ok-put_pair.ensures in
    by_nine _ _ _ _ _ _ _ _ _ _ _ _ _ _ _ _ _ _ _
    c.in_ok-append.ensures.ok number c.in_ok-append-2.ensures.ok votes c.in_ok-append-3.ensures.ok c.in_ok-put_string.ensures c.in_ok-append-4.ensures.ok c.in_ok-put_bool.ensures c.in_ok-append-5.ensures.ok
