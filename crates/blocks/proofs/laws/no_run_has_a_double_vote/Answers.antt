use Rattle.blocks.proofs.Runs.{no_double_vote}
use Rattle.blocks.proofs.laws.no_run_has_a_double_vote.Goals as goal

pub returns : goal.returns
returns c = no_double_vote
