use Rattle.std.proofs.Common.{ℕ}
use Rattle.log_server.specs.declared.reply.Reply.{Reply}
use Rattle.log_server.proofs.Replied.{blames_again}
use Rattle.log_server.proofs.replying.reply_to.Goals as goal

pub returns-in-Ok-clause-cause : goal.returns-in-Ok-clause-cause
returns-in-Ok-clause-cause g c = c.in-Ok.ensures.cause _ _ c.in_ok-read_asked.ensures.cause

pub returns-in-Err-clause-cause : goal.returns-in-Err-clause-cause
returns-in-Err-clause-cause g c = blames_again ℕ Reply _ _ _ _ _ _ c.in-Err.error (c.in-Err.ensures.cause _ _ c.in_ok-read_asked.ensures.cause)
