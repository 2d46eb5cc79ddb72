use Rattle.replica_backups.proofs.ForgottenVotes.{forgot}
use Rattle.replica_backups.proofs.laws.a_culprit_forgot_a_vote.Goals as goal

pub returns : goal.returns
returns c = forgot
