use Rattle.std.proofs.Common.{ℕ, ◌<◌, slice_index}
use Rattle.lmots.specs.Walks.{CanGo}
use Rattle.lmots.proofs.walks.Walks.least_left.Given as goal

abbrev pub invariant-loop-chain : goal.invariant-loop-chain
invariant-loop-chain s = (l : ℕ) → l < s.chain-index → CanGo s.self s.least (slice_index s.chains l)
