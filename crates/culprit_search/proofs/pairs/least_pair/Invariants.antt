use Rattle.std.proofs.Common.{take}
use Rattle.std.specs.List.{All}
use Rattle.culprit_search.specs.Searches.{FirstHaveNoLockAbove, NoneBreaksWith}
use Rattle.culprit_search.proofs.pairs.least_pair.Given as goal

abbrev pub invariant-loop-w : goal.invariant-loop-w
invariant-loop-w l = (All (NoneBreaksWith l.evidence l.own) (take l.w-index l.own)) × (FirstHaveNoLockAbove l.evidence l.own l.locks)
