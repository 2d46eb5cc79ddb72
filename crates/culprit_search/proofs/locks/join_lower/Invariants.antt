use Rattle.std.proofs.Common.{length, take, ◌-◌}
use Rattle.std.specs.List.{All}
use Rattle.culprit_search.specs.Searches.{HasNoLockAbove}
use Rattle.culprit_search.proofs.locks.join_lower.Given as goal

abbrev pub invariant-loop-joined : goal.invariant-loop-joined
invariant-loop-joined l = All (HasNoLockAbove l.evidence l.greatest) (take l.joined l.own)

abbrev pub decreases-loop-joined : goal.decreases-loop-joined
decreases-loop-joined l = length l.own - l.joined
