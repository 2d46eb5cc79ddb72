use Rattle.std.proofs.Common.{take}
use Rattle.std.specs.List.{All, AllZip}
use Rattle.parallel_verify.specs.Collections.{MayBeTried}
use Rattle.program_draw.proofs.Sources.{IsSourceOf}
use Rattle.program_draw.proofs.reading.sources_of.Given as goal

abbrev pub invariant-loop-word : goal.invariant-loop-word
invariant-loop-word g l = record {
  tried : All (MayBeTried (λ c. 1)) l.sources.items;
  replicas : AllZip IsSourceOf (take l.word-index l.words) l.sources.items;
}
