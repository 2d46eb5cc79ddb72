use Rattle.std.proofs.Common.{◌≡◌, length}
use Rattle.std.specs.List.{All}
use Rattle.program_words.specs.Commands.{IsWeighted}
use Rattle.program_words.proofs.reading.weighted.Given as goal

abbrev pub invariant-loop-word : goal.invariant-loop-word
invariant-loop-word l = (length l.replicas.items ≡ l.word-index) × All IsWeighted l.replicas.items
