use Rattle.std.proofs.lemmas.Result.{IfErr-weaker}
use Rattle.program_check.specs.Faults.{IsStdinFault}
use Rattle.program_check.proofs.Spelling.{IsNotSpelled, of_text}
use Rattle.program_check.proofs.input.Texts.from_lines.Goals as goal

pub returns-clause-refused : goal.returns-clause-refused
returns-clause-refused g c =
    let stdin = g.R.Read.remaining c.args.stdin in
    IfErr-weaker c.spelled_by.result (IsNotSpelled c.deref.result.now) (IsStdinFault stdin)
    (λ fault is. of_text stdin c.in_ok-text.text.items c.deref.result.now fault c.in_ok-text.ensures.whole c.deref.ensures.value is) c.spelled_by.ensures.refused
