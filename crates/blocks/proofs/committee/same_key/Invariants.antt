use Rattle.std.proofs.Common.{◌≡◌, None}
use Rattle.base_wire.specs.Refusals.{first_of}
use Rattle.blocks.specs.CommitteeReading.{same_key}
use Rattle.blocks.proofs.committee.same_key.Given as goal

abbrev pub invariant-loop-k : goal.invariant-loop-k
invariant-loop-k l = first_of (same_key l.bytes l.of.replica l.of.key l.r) l.k ≡ None
