use Rattle.handover_blocks.specs.OldKeys.{AreNewKeys}
use Rattle.handover_blocks.proofs.old_keys.first_old_key_of.Given as goal

abbrev pub invariant-loop-k : goal.invariant-loop-k
invariant-loop-k l = AreNewKeys l.old l.new l.r l.k
