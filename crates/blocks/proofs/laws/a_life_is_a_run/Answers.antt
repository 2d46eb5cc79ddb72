use Rattle.blocks.proofs.LivesHold.{every_life}
use Rattle.blocks.proofs.laws.a_life_is_a_run.Goals as goal

pub returns : goal.returns
returns c = every_life
