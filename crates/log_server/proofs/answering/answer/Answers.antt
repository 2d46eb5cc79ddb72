use Rattle.std.proofs.lemmas.Result.{on_ok_weaker}
use Rattle.log_server.proofs.answering.answer.Goals as goal

pub returns-clause-told : goal.returns-clause-told
returns-clause-told g c =
    let reply = c.reply_to-served.ensures in
    on_ok_weaker c.print_answer.result (λ wrote. (c.reply_to-served.result, wrote, record { answer = reply.answer; blame = reply.cause })) c.print_answer.ensures.printed
