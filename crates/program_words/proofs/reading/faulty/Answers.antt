use Rattle.std.proofs.Common.{◌<◌, arith, rules}
use Rattle.program_parts.specs.Words.{SpellsNumber}
use Rattle.program_parts.proofs.Numbers.{one_number}
use Rattle.program_words.proofs.reading.faulty.Goals as goal
use Rattle.program_words.proofs.reading.faulty.Goals.{then-f-lt1-via-then-f-lt1, then-f-lt1-via-else-f-lt1+then-f-gt10}

pub returns-then-f-lt1 : goal.returns-then-f-lt1
returns-then-f-lt1 c m low high s =
    let spelled : SpellsNumber c.args.word.now c.in_ok-f.f = search rules in
    let same = one_number c.args.word.now m c.in_ok-f.f s spelled in
    elim c.then-f-lt1.branch [
      | then-f-lt1-via-then-f-lt1 w ↦ let below : c.in_ok-f.f < 1 = search rules in omega (arith, same, low)
      | then-f-lt1-via-else-f-lt1+then-f-gt10 w ↦ let above : 10 < c.in_ok-f.f = search rules in omega (arith, same, high)
    ]
