use Rattle.std.proofs.Common.{ℕ, ◌<◌}
use Rattle.vote_desk.specs.Desks.{IsKeyOf, seed_of}
use Rattle.vote_desk.proofs.opening.are_keys.Given as goal

abbrev pub invariant-loop-k : goal.invariant-loop-k
invariant-loop-k l = (k : ℕ) → k < l.k → IsKeyOf l.committee l.replica k (seed_of l.trees k)
