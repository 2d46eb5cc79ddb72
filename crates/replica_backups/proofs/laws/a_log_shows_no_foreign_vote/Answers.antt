use Rattle.replica_backups.proofs.Shown.{no_foreign, unknown_is_foreign}
use Rattle.replica_backups.proofs.laws.a_log_shows_no_foreign_vote.Goals as goal

pub returns-clause-never : goal.returns-clause-never
returns-clause-never c = no_foreign

pub returns-clause-stronger : goal.returns-clause-stronger
returns-clause-stronger c = unknown_is_foreign
