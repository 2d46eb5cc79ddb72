use Rattle.std.proofs.Common.{◌≡◌, None}
use Rattle.base_wire.specs.Refusals.{first_of}
use Rattle.blocks.specs.CommitteeReading.{bad_key}
use Rattle.blocks.proofs.committee.bad_key_of.Given as goal

abbrev pub invariant-loop-k : goal.invariant-loop-k
invariant-loop-k l = first_of (bad_key l.bytes l.r) l.k ≡ None
