use Rattle.std.proofs.Common.{◌≡◌, ◌++◌, take}
use Rattle.std.specs.List.{flat_map}
use Rattle.watch_web.specs.Metrics.{sample}
use Rattle.watch_web.proofs.metrics.put_samples.Given as goal

abbrev pub invariant-loop-source : goal.invariant-loop-source
invariant-loop-source l = l.text.items ≡ l.fn.text.items ++ flat_map (sample l.fn.family) (take l.source-index l.sources)
