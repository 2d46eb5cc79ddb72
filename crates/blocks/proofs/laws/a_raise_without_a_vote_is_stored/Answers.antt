use Rattle.blocks.proofs.WorkedRunsHold.{raise_is_stored}
use Rattle.blocks.proofs.laws.a_raise_without_a_vote_is_stored.Goals as goal

pub returns : goal.returns
returns c = raise_is_stored
