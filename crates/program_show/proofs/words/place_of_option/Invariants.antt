use Rattle.std.proofs.Common.{take}
use Rattle.std.specs.List.{Contains}
use Rattle.program_show.specs.Words.{option_word, texts}
use Rattle.program_show.proofs.words.place_of_option.Given as goal

abbrev pub invariant-loop-i : goal.invariant-loop-i
invariant-loop-i l = Contains (texts (take l.i l.words)) option_word → ⊥
