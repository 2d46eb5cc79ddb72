use Rattle.std.proofs.Common.{◌≡◌, ◌++◌, take}
use Rattle.std.specs.Prelude.{codes}
use Rattle.std.specs.List.{flat_map}
use Rattle.watch_web.specs.Reports.{source_text}
use Rattle.watch_web.proofs.lists.put_more_sources.Given as goal

abbrev pub invariant-loop-source : goal.invariant-loop-source
invariant-loop-source l = l.text.items ≡ l.fn.text.items ++ flat_map (λ y. codes "," ++ source_text y) (take l.source-index l.sources)
