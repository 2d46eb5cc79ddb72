use Rattle.watch_collector.proofs.Staying.{pairs_fall, first_conflicts_fall}
use Rattle.watch_collector.proofs.laws.what_is_named_falls.Goals as goal

pub returns-clause-pairs : goal.returns-clause-pairs
returns-clause-pairs c = pairs_fall

pub returns-clause-conflicts : goal.returns-clause-conflicts
returns-clause-conflicts c = first_conflicts_fall
