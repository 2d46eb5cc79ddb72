use Rattle.std.proofs.Common.{◌<◌, ℕ}
use Rattle.handover_folder.specs.Standing.{IsSameKey}
use Rattle.handover_folder.proofs.standing.has_keys_of.Given as goal

-- the keys so far are the same
abbrev pub invariant-loop-k : goal.invariant-loop-k
invariant-loop-k l = (k : ℕ) → k < l.k → IsSameKey l.before l.after l.replica k
