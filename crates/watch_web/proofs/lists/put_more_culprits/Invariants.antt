use Rattle.std.proofs.Common.{◌≡◌, ◌++◌, take}
use Rattle.std.specs.Prelude.{codes}
use Rattle.std.specs.List.{flat_map}
use Rattle.watch_web.specs.Reports.{culprit_text}
use Rattle.watch_web.proofs.lists.put_more_culprits.Given as goal

abbrev pub invariant-loop-culprit : goal.invariant-loop-culprit
invariant-loop-culprit l = l.text.items ≡ l.fn.text.items ++ flat_map (λ y. codes "," ++ culprit_text y) (take l.culprit-index l.culprits)
