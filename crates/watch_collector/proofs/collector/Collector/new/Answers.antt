use Rattle.watch_collector.proofs.KnownSoFar.{nothing_yet}
use Rattle.watch_collector.proofs.collector.Collector.new.Goals as goal

pub returns : goal.returns
returns c = nothing_yet c.args.committee.now c.args.replicas.now _ c.in_ok-new.ensures.committee c.in_ok-new.ensures.headers c.in_ok-new.ensures.votes c.in_ok-all_unread.ensures
