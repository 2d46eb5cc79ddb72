use Rattle.std.proofs.Common.{◌≡◌, ◌++◌, take}
use Rattle.std.specs.List.{flat_map}
use Rattle.watch_web.specs.Rows.{source_row}
use Rattle.watch_web.proofs.rows.put_sources.Given as goal

abbrev pub invariant-loop-source : goal.invariant-loop-source
invariant-loop-source l = l.text.items ≡ l.fn.text.items ++ flat_map (source_row l.fn.every l.fn.top l.fn.second) (take l.source-index l.sources)
