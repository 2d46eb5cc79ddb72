use Rattle.std.proofs.Common.{◌≡◌, ◌*◌, ◌^◌, ◌≤◌}
use Rattle.blocks.specs.Committees.{weight_at}
use Rattle.blocks.specs.Weights.{weight_of}
use Rattle.handover_renewals.specs.Slots.{is_new}
use Rattle.handover_renewals.proofs.slots.slots_of.Given as goal

abbrev pub invariant-loop-s : goal.invariant-loop-s
invariant-loop-s l = record {
  count : l.slots.count ≡ weight_of (λ s. 1) (is_new l.old l.new) l.s;
  weight : l.slots.weight ≡ weight_of (weight_at l.old) (is_new l.old l.new) l.s;
  few : l.slots.count ≤ l.s;
  small : l.slots.weight ≤ 2 ^ 32 * l.s;
}
