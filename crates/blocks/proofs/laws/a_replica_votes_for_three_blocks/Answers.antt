use Rattle.blocks.proofs.WorkedRunsHold.{votes_for_three}
use Rattle.blocks.proofs.laws.a_replica_votes_for_three_blocks.Goals as goal

pub returns : goal.returns
returns c = votes_for_three
