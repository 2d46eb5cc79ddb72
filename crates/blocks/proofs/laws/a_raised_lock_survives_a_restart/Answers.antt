use Rattle.blocks.proofs.WorkedRunsHold.{raised_lock_survives}
use Rattle.blocks.proofs.laws.a_raised_lock_survives_a_restart.Goals as goal

pub returns : goal.returns
returns c = raised_lock_survives
