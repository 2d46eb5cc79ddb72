use Rattle.std.proofs.Common.{◌<◌, ℕ}
use Rattle.blocks.specs.Committees.{keys_of}
use Rattle.handover_blocks.specs.OldKeys.{AreNewKeys}
use Rattle.handover_blocks.proofs.old_keys.first_old_key.Given as goal

abbrev pub invariant-loop-r : goal.invariant-loop-r
invariant-loop-r l = (s : ℕ) → s < l.r → AreNewKeys l.old l.new s (keys_of l.new s)
