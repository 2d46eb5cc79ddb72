use Rattle.replica_backups.proofs.Shown.{later_is_unknown}
use Rattle.replica_backups.proofs.laws.a_later_vote_is_unknown.Goals as goal

pub returns : goal.returns
returns c = later_is_unknown
