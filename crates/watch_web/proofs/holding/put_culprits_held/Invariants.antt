use Rattle.std.proofs.Common.{◌≡◌, ◌++◌, take}
use Rattle.std.specs.List.{flat_map}
use Rattle.watch_web.specs.Holding.{culprit_held}
use Rattle.watch_web.proofs.holding.put_culprits_held.Given as goal

abbrev pub invariant-loop-culprit : goal.invariant-loop-culprit
invariant-loop-culprit l = l.text.items ≡ l.fn.text.items ++ flat_map (culprit_held l.fn.second) (take l.culprit-index l.culprits)
