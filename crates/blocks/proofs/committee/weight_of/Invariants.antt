use Rattle.std.proofs.Common.{ℕ, Bool, ◌≡◌, ◌*◌, ◌^◌, ◌≤◌}
use Rattle.blocks.specs.Committees.{weight_at}
use Rattle.blocks.specs.Weights.{Decides, weight_of}
use Rattle.blocks.proofs.committee.weight_of.Given as goal

abbrev pub invariant-loop-r : goal.invariant-loop-r
invariant-loop-r g l = record {
  weight : (passes : ℕ → Bool) → Decides (goal.F-post g) l.test passes l.r → l.weight ≡ weight_of (weight_at l.bytes) passes l.r;
  small : l.weight ≤ 2 ^ 32 * l.r;
}
