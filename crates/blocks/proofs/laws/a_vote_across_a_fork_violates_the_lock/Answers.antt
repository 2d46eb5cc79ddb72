use Rattle.blocks.proofs.WorkedRunsHold.{crosses_a_fork}
use Rattle.blocks.proofs.laws.a_vote_across_a_fork_violates_the_lock.Goals as goal

pub returns : goal.returns
returns c = crosses_a_fork
