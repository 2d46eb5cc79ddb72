use Rattle.std.proofs.Common.{◌≡◌, take}
use Rattle.std.specs.Prelude.{sum_by}
use Rattle.watch_desk.specs.Shown.{capped}
use Rattle.watch_desk.proofs.shown.weight_together.Given as goal

abbrev pub invariant-loop-culprit : goal.invariant-loop-culprit
invariant-loop-culprit l = l.weight ≡ capped (sum_by (λ c. c.weight) (take l.culprit-index l.culprits))
