use Rattle.replica_backups.proofs.Backups.{backup_is_of_a_life}
use Rattle.replica_backups.proofs.laws.a_backup_is_of_a_life.Goals as goal

pub returns : goal.returns
returns c = backup_is_of_a_life
