use Rattle.std.proofs.Common.{rules}
use Rattle.program_parts.specs.Words.{SpellsNumber}
use Rattle.program_parts.proofs.Numbers.{bounded_word}
use Rattle.program_words.specs.declared.command.Requests.{Requests}
use Rattle.program_words.proofs.reading.requests.Goals as goal

pub returns : goal.returns
returns c =
    let spelled : SpellsNumber c.args.word.now c.in_ok-number.field-0 = search rules in
    bounded_word 1000 (λ (x : Requests). x.count) c.args.word.now c.in_ok-number.field-0 c.of.result spelled c.of.ensures
