use Rattle.std.proofs.Common.{◌≡◌, ◌*◌, ◌^◌, ◌≤◌, take}
use Rattle.std.specs.List.{sum_by}
use Rattle.certificates.specs.BlockChecks.{counted}
use Rattle.certificates.proofs.checked_block.counted_weight.Given as goal

abbrev pub invariant-loop-entry : goal.invariant-loop-entry
invariant-loop-entry l = (l.weight ≡ sum_by (counted l.committee) (take l.entry-index l.entry-items)) × (l.weight ≤ 2 ^ 32 * l.entry-index)
