use Rattle.handover_keys.specs.NextKeysReading.{ArePublicKeys}
use Rattle.handover_keys.proofs.statement.are_public_keys.Given as goal

abbrev pub invariant-loop-k : goal.invariant-loop-k
invariant-loop-k l = ArePublicKeys l.bytes l.k
