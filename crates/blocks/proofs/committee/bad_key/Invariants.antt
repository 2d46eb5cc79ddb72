use Rattle.std.proofs.Common.{◌≡◌, None}
use Rattle.base_wire.specs.Refusals.{first_of}
use Rattle.blocks.specs.CommitteeReading.{bad_key_of}
use Rattle.blocks.proofs.committee.bad_key.Given as goal

abbrev pub invariant-loop-r : goal.invariant-loop-r
invariant-loop-r l = first_of (bad_key_of l.bytes) l.r ≡ None
