use Rattle.blocks.proofs.Runs.{no_lock_violation}
use Rattle.blocks.proofs.laws.no_run_has_a_lock_violation.Goals as goal

pub returns : goal.returns
returns c = no_lock_violation
