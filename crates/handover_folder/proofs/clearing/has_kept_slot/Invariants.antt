use Rattle.std.proofs.Common.{◌<◌, ℕ}
use Rattle.handover_folder.specs.Standing.{HasKeys}
use Rattle.handover_folder.proofs.clearing.has_kept_slot.Given as goal

-- none so far has
abbrev pub invariant-loop-replica : goal.invariant-loop-replica
invariant-loop-replica l = (replica : ℕ) → replica < l.replica → HasKeys l.before l.after replica → ⊥
