use Rattle.std.proofs.Common.{refl}
use Rattle.parallel_verify.proofs.Replaying.{replayed_none}
use Rattle.parallel_verify.proofs.steps.Steps.first.Goals as goal

pub returns : goal.returns
returns c = replayed_none c.args.genesis.now _ c.first.ensures refl refl
