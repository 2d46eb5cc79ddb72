use Rattle.std.proofs.Common.{◌≡◌, ◌+◌, length}
use Rattle.ancestry.proofs.ancestry.Ancestry.set_jumps.Given as goal

abbrev pub invariant-loop-at : goal.invariant-loop-at
invariant-loop-at l = record {
  same : l.self ≡ l.fn.self;
  count : length l.lengths.items ≡ length l.self.headers + 1;
}
