use Rattle.std.proofs.Common.{◌≡◌, ◌++◌}
use Rattle.std.specs.Prelude.{decimal}
use Rattle.verdict_format.specs.Verdicts.{replica_in}
use Rattle.watch_web.specs.Holding.{culprit_held}
use Rattle.watch_web.proofs.Pieces.{by_five}
use Rattle.watch_web.proofs.holding.put_culprit_held.Goals as goal

pub returns : goal.returns
unfolding culprit_held
returns c =
    let number : c.put_number.new.text.items ≡ c.append.new.text.items ++ decimal (replica_in c.args.culprit.now.verdict) =
    rw (← c.replica-replica.ensures) c.in_ok-put_number.ensures.ok in
    by_five _ _ _ _ _ _ _ _ _ _ _
    c.in_ok-append.ensures.ok number c.in_ok-append-2.ensures.ok c.in_ok-put_for.ensures c.in_ok-append-3.ensures.ok
