use Rattle.std.specs.Prelude.{Err}
use Rattle.std.proofs.lemmas.Result.{on_ok_weaker}
use Rattle.log_server.specs.declared.error.ServeError.TheVariants.{Source}
use Rattle.log_server.proofs.service.answer_next.Goals as goal

pub returns-in-Err-clause-served : goal.returns-in-Err-clause-served
returns-in-Err-clause-served g c =
    on_ok_weaker c.print_answer-printed.result (λ wrote. (Err Source, tt, wrote)) c.print_answer-printed.ensures.printed
