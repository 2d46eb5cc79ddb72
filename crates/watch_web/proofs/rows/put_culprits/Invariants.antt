use Rattle.std.proofs.Common.{◌≡◌, ◌++◌, take}
use Rattle.std.specs.List.{flat_map}
use Rattle.watch_web.specs.Rows.{culprit_row}
use Rattle.watch_web.proofs.rows.put_culprits.Given as goal

abbrev pub invariant-loop-culprit : goal.invariant-loop-culprit
invariant-loop-culprit l = l.text.items ≡ l.fn.text.items ++ flat_map culprit_row (take l.culprit-index l.culprits)
