use Rattle.std.proofs.Common.{◌≡◌, None}
use Rattle.base_wire.specs.Refusals.{first_of}
use Rattle.blocks.specs.CommitteeReading.{no_weight}
use Rattle.blocks.proofs.committee.first_without_weight.Given as goal

abbrev pub invariant-loop-k : goal.invariant-loop-k
invariant-loop-k l = first_of (no_weight l.bytes) l.k ≡ None
