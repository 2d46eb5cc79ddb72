use Rattle.std.proofs.Common.{◌≡◌, ◌++◌, take}
use Rattle.program_show.specs.Words.{paths_in, texts}
use Rattle.program_show.proofs.words.put_files.Given as goal

abbrev pub invariant-loop-word : goal.invariant-loop-word
invariant-loop-word l = paths_in l.files.items ≡ paths_in l.fn.files.items ++ texts (take l.word-index l.words)
