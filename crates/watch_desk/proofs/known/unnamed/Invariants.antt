use Rattle.std.proofs.Common.{◌≡◌, take}
use Rattle.watch_desk.specs.Verdicts.{unnamed}
use Rattle.watch_desk.proofs.known.unnamed.Given as goal

abbrev pub invariant-loop-verdict : goal.invariant-loop-verdict
invariant-loop-verdict l = l.found.items ≡ unnamed l.known (take l.verdict-index l.verdicts)
