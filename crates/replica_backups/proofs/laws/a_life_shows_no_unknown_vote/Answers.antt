use Rattle.replica_backups.proofs.Shown.{no_unknown}
use Rattle.replica_backups.proofs.laws.a_life_shows_no_unknown_vote.Goals as goal

pub returns : goal.returns
returns c = no_unknown
