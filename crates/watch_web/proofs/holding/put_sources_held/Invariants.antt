use Rattle.std.proofs.Common.{◌≡◌, ◌++◌, take}
use Rattle.std.specs.List.{flat_map}
use Rattle.watch_web.specs.Holding.{source_held}
use Rattle.watch_web.proofs.holding.put_sources_held.Given as goal

abbrev pub invariant-loop-source : goal.invariant-loop-source
invariant-loop-source l = l.text.items ≡ l.fn.text.items ++ flat_map (source_held l.fn.every l.fn.second) (take l.source-index l.sources)
