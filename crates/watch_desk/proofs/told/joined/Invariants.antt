use Rattle.std.proofs.Common.{◌≡◌, ◌++◌, take}
use Rattle.watch_desk.proofs.told.joined.Given as goal

abbrev pub invariant-loop-verdict : goal.invariant-loop-verdict
invariant-loop-verdict l = l.all.items ≡ take l.verdict-index l.known

abbrev pub invariant-loop-more : goal.invariant-loop-more
invariant-loop-more l = l.all.items ≡ l.known ++ l.yielded
