use Rattle.blocks.proofs.LivesHold.{every_run}
use Rattle.blocks.proofs.laws.a_run_is_a_life.Goals as goal

pub returns : goal.returns
returns c = every_run
