use Rattle.std.proofs.Common.{take}
use Rattle.std.specs.List.{AllZip}
use Rattle.parallel_verify.specs.Sources.{IsLogOf}
use Rattle.parallel_verify.proofs.texts.logs_of.Given as goal

abbrev pub invariant-loop-source : goal.invariant-loop-source
invariant-loop-source l = AllZip IsLogOf (take l.source-index l.sources) l.logs.items
