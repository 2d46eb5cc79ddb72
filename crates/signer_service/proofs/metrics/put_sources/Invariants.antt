use Rattle.std.proofs.Common.{◌≡◌, ◌++◌, take}
use Rattle.signer_service.specs.Metrics.{source_lines}
use Rattle.signer_service.proofs.metrics.put_sources.Given as goal

abbrev pub invariant-loop-at : goal.invariant-loop-at
invariant-loop-at l = l.body.items ≡ l.initial.body.items ++ source_lines 0 (take l.at l.heard)
