use Rattle.watch_collector.proofs.Staying.{show_more, collision_stays}
use Rattle.watch_collector.proofs.laws.longer_logs_show_more.Goals as goal

pub returns-clause-more : goal.returns-clause-more
returns-clause-more c = show_more

pub returns-clause-collision : goal.returns-clause-collision
returns-clause-collision c = collision_stays
