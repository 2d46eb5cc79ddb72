use Rattle.std.proofs.Common.{◌≡◌, None}
use Rattle.base_wire.specs.Refusals.{first_of}
use Rattle.blocks.specs.CommitteeReading.{first_twin_of}
use Rattle.blocks.proofs.committee.first_twin.Given as goal

abbrev pub invariant-loop-s : goal.invariant-loop-s
invariant-loop-s l = first_of (first_twin_of l.bytes) l.s ≡ None
