use Rattle.std.proofs.Common.{◌≡◌, None}
use Rattle.base_wire.specs.Refusals.{first_of}
use Rattle.blocks.specs.CommitteeReading.{same_key_of}
use Rattle.blocks.proofs.committee.twin_of.Given as goal

abbrev pub invariant-loop-r : goal.invariant-loop-r
invariant-loop-r l = first_of (same_key_of l.bytes l.of.replica l.of.key) l.r ≡ None
