use Rattle.std.proofs.Common.{◌≡◌, min}
use Rattle.lmots.specs.Chains.{chain_steps}
use Rattle.lmots.proofs.chains.chain_steps.Given as goal

abbrev pub invariant-loop-j : goal.invariant-loop-j
invariant-loop-j l = l.chain ≡ (l.prefix, chain_steps l.prefix l.from (min l.j l.until) l.start)
