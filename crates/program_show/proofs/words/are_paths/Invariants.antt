use Rattle.std.proofs.Common.{take}
use Rattle.std.specs.List.{All}
use Rattle.program_show.specs.Words.{IsPath, texts}
use Rattle.program_show.proofs.words.are_paths.Given as goal

abbrev pub invariant-loop-word : goal.invariant-loop-word
invariant-loop-word l = All IsPath (texts (take l.word-index l.words))
