use Rattle.std.proofs.Common.{◌≡◌, ◌+◌, ◌*◌, ◌++◌, take}
use Rattle.std.specs.List.{concat}
use Rattle.handover_renewals.specs.Slots.{keys_upto}
use Rattle.handover_renewals.proofs.SlotLaws.{head_of}
use Rattle.handover_renewals.proofs.slot_statement.SlotStatement.of.Given as goal

abbrev pub invariant-loop-k : goal.invariant-loop-k
invariant-loop-k l = take (39 + 56 * l.k) l.bytes ≡ head_of l.chain l.s l.count ++ concat (keys_upto l.committee l.s l.k)
