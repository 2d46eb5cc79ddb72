use Rattle.std.proofs.Common.{◌≡◌, ◌≤◌, take}
use Rattle.vote_desk.specs.Desks.{vote_count}
use Rattle.vote_desk.proofs.receipts.vote_count.Given as goal

abbrev pub invariant-loop-step : goal.invariant-loop-step
invariant-loop-step l = (l.count ≡ vote_count (take l.step-index l.steps)) × (l.count ≤ l.step-index)
