use Rattle.blocks.proofs.WorkedRunsHold.{timeout_is_forgotten}
use Rattle.blocks.proofs.laws.a_timeout_is_forgotten_at_a_restart.Goals as goal

pub returns : goal.returns
returns c = timeout_is_forgotten
