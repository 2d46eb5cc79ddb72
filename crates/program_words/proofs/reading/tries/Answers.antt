use Rattle.std.proofs.Common.{rules}
use Rattle.program_parts.specs.Words.{SpellsNumber}
use Rattle.program_parts.proofs.Numbers.{bounded_word}
use Rattle.program_words.specs.declared.command.Tries.{Tries}
use Rattle.program_words.proofs.reading.tries.Goals as goal

pub returns : goal.returns
returns c =
    let spelled : SpellsNumber c.args.word.now c.in_ok-number.field-0 = search rules in
    bounded_word 3 (λ (x : Tries). x.count) c.args.word.now c.in_ok-number.field-0 c.of.result spelled c.of.ensures
