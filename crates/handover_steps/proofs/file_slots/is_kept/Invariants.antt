use Rattle.std.proofs.Common.{◌<◌, ℕ}
use Rattle.handover_steps.specs.Successors.{IsSameKey}
use Rattle.handover_steps.proofs.file_slots.is_kept.Given as goal

-- the keys so far are the same
abbrev pub invariant-loop-k : goal.invariant-loop-k
invariant-loop-k l = (k : ℕ) → k < l.k → IsSameKey l.old l.new l.slot k
