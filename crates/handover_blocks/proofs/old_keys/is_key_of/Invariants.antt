use Rattle.std.proofs.Common.{◌<◌, ℕ}
use Rattle.handover_blocks.specs.OldKeys.{IsKeyOfReplica}
use Rattle.handover_blocks.proofs.old_keys.is_key_of.Given as goal

abbrev pub invariant-loop-r : goal.invariant-loop-r
invariant-loop-r l = (s : ℕ) → s < l.r → IsKeyOfReplica l.committee s l.key → ⊥
