use Rattle.std.proofs.Common.{◌≡◌, ◌<◌, ℕ}
use Rattle.handover_blocks.specs.OldKeys.{public_key_at}
use Rattle.handover_steps.proofs.taken.has_key.Given as goal

abbrev pub invariant-loop-k : goal.invariant-loop-k
invariant-loop-k l = (j : ℕ) → j < l.k → public_key_at l.committee l.r j ≡ l.key → ⊥
